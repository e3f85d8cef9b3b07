-- A row taken out with its number reserved, a row put into such a place, and a place given up.
use Rattle.std.specs.Prelude.{◌≡◌, ◌≢◌, ℕ, zero, suc, ◌+◌, ◌-◌, ◌<◌, ◌≤◌, refl, None, Some, IsSome, IfSome, option_map}
use Rattle.std.proofs.Common.{sym, ◌∙◌, ap, subst, arith}
use Rattle.std.specs.Ordering.{nat_cmp}
use Rattle.std.specs.Cmp.{nat_cmp_total as total}
use Rattle.std.specs.FinMap as map
use Rattle.std.specs.FinMap.{nat_cmp-IsAntisymmetric as exact}
use Rattle.hypertrie_model.specs.MapLaws.{get-insert_here}
use Rattle.node_table.specs.Table.{Row, Table, Spot, row_at, with_row, without_row, reserved_at, with_reserved, HasNoNode}
use Rattle.trie_node.specs.declared.node.Node.{Node}
use Rattle.trie_node.specs.Sets.{edges_of, hash_of_node}
use Rattle.trie_context.specs.declared.tables.Tables.{Tables}
use Rattle.trie_context.specs.Rows.{table_at, put_table, rows_at, row_of, node_set, row_set, set_of}
use Rattle.trie_context.specs.Holds.{holds_over, holds_of, one_at, at_depth, nothing}
use Rattle.trie_context.specs.Kept.{IsNode, AllKept, AreKept, AreMoved}
use Rattle.trie_context.specs.Opened.{IsReserved, StandsForNoRow, one_held, opened_at, closed_at, discarded_at, HoldsAreMoved, IsOpened, IsClosed}
use Rattle.trie_context.specs.RowLaws.{row_there, set_names}
use Rattle.trie_context.specs.MoveLaws.{from_one, less_one, there_row}
use Rattle.trie_context.proofs.ReleaseLemmas.{if_at, live_at}
use Rattle.trie_context.proofs.RowChanges.{at_remove}
use Rattle.trie_context.proofs.TableMoves.{dropped, added, beside_put, here_put, put_row}

-- tables whose rows are the same are kept and have the same holds
pub rows_moved : (mixed : ℕ → ℕ → ℕ → ℕ → ℕ) (t u v : Tables) (gained given : ℕ → ℕ → ℕ) → rows_at v ≡ rows_at u → AreMoved mixed t u gained given → HoldsAreMoved mixed t v gained given
rows_moved mixed t u v gained given same m =
    record {
      kept = subst (AllKept mixed) (sym same) m.kept;
      holds = λ d r. ap (λ all. holds_over all d r + given d r) same ∙ m.holds d r;
    }

module _ (t : Tables) where
  -- which numbers are reserved makes no difference to the rows
  rows_by : (k : ℕ) (x y : Table Node) → x.rows ≡ y.rows → (e : ℕ) → rows_at (put_table t k x) e ≡ rows_at (put_table t k y) e
  rows_by zero x y same e = refl
  rows_by (suc zero) x y same zero = refl
  rows_by (suc zero) x y same (suc zero) = same
  rows_by (suc zero) x y same (suc (suc zero)) = refl
  rows_by (suc zero) x y same (suc (suc (suc zero))) = refl
  rows_by (suc zero) x y same (suc (suc (suc (suc e)))) = refl
  rows_by (suc (suc zero)) x y same zero = refl
  rows_by (suc (suc zero)) x y same (suc zero) = refl
  rows_by (suc (suc zero)) x y same (suc (suc zero)) = same
  rows_by (suc (suc zero)) x y same (suc (suc (suc zero))) = refl
  rows_by (suc (suc zero)) x y same (suc (suc (suc (suc e)))) = refl
  rows_by (suc (suc (suc zero))) x y same zero = refl
  rows_by (suc (suc (suc zero))) x y same (suc zero) = refl
  rows_by (suc (suc (suc zero))) x y same (suc (suc zero)) = refl
  rows_by (suc (suc (suc zero))) x y same (suc (suc (suc zero))) = same
  rows_by (suc (suc (suc zero))) x y same (suc (suc (suc (suc e)))) = refl
  rows_by (suc (suc (suc (suc k)))) x y same e = refl

  pub same_rows_put : (k : ℕ) (x y : Table Node) → x.rows ≡ y.rows → rows_at (put_table t k x) ≡ rows_at (put_table t k y)
  same_rows_put k x y same = λ i e. rows_by k x y same e i

  own_rows : (k e : ℕ) → rows_at t e ≡ rows_at (put_table t k (table_at t k)) e
  own_rows zero e = refl
  own_rows (suc zero) zero = refl
  own_rows (suc zero) (suc zero) = refl
  own_rows (suc zero) (suc (suc zero)) = refl
  own_rows (suc zero) (suc (suc (suc zero))) = refl
  own_rows (suc zero) (suc (suc (suc (suc e)))) = refl
  own_rows (suc (suc zero)) zero = refl
  own_rows (suc (suc zero)) (suc zero) = refl
  own_rows (suc (suc zero)) (suc (suc zero)) = refl
  own_rows (suc (suc zero)) (suc (suc (suc zero))) = refl
  own_rows (suc (suc zero)) (suc (suc (suc (suc e)))) = refl
  own_rows (suc (suc (suc zero))) zero = refl
  own_rows (suc (suc (suc zero))) (suc zero) = refl
  own_rows (suc (suc (suc zero))) (suc (suc zero)) = refl
  own_rows (suc (suc (suc zero))) (suc (suc (suc zero))) = refl
  own_rows (suc (suc (suc zero))) (suc (suc (suc (suc e)))) = refl
  own_rows (suc (suc (suc (suc k)))) e = refl

  -- the sets of the rows below a depth whose table is replaced
  sets_under : (k : ℕ) (x : Table Node) (d : ℕ) → d < k → set_of (put_table t k x) d ≡ set_of t d
  sets_under k x zero lt = refl
  sets_under k x (suc d) lt = λ i r. row_set (node_set (suc d) (sets_under k x d (omega arith) i)) (map.get ((beside_put t k x (suc d) (λ is. omega arith) i).rows) r)

-- a node that no row has stands for the set of no row
pub stands_for_none : (mixed : ℕ → ℕ → ℕ → ℕ → ℕ) (t : Tables) → AreKept mixed t → (k : ℕ) → 1 ≤ k → (node : Node) → IsNode mixed k (set_of t (k - 1)) node → HasNoNode (table_at t k) node → StandsForNoRow t k node
stands_for_none mixed t kept k low node form fresh r there =
    from_one (λ k. IsNode mixed k (set_of t (k - 1)) node → HasNoNode (table_at t k) node → IsSome (row_of t k r) → set_of t k r ≢ node_set k (set_of t (k - 1)) node) k low
    (λ j form fresh there same.
    let row = row_there (row_of t (suc j) r) there in
    let low_is = less_one j in
    fresh r row.0 row.1 (set_names mixed t kept j node (subst (λ l. IsNode mixed (suc j) (set_of t l) node) (sym low_is) form) r row.0 row.1 (same ∙ ap (λ l. node_set (suc j) (set_of t l) node) (sym low_is))))
    form fresh there

module _ (mixed : ℕ → ℕ → ℕ → ℕ → ℕ) (t : Tables) (kept : AreKept mixed t) (k : ℕ) (low : 1 ≤ k) (high : k ≤ 3) where
  -- the node of a row is in its form
  form_at : (i : ℕ) (row : Row Node) → row_of t k i ≡ Some row → IsNode mixed k (set_of t (k - 1)) row.node
  form_at i row = from_one (λ k. row_of t k i ≡ Some row → IsNode mixed k (set_of t (k - 1)) row.node) k low
      (λ j at. subst (λ l. IsNode mixed (suc j) (set_of t l) row.node) (less_one j) ((kept j).formed i row at))

  hash_at : (i : ℕ) (row : Row Node) → row_of t k i ≡ Some row → row.hash ≡ hash_of_node mixed row.node
  hash_at i row = from_one (λ k. row_of t k i ≡ Some row → row.hash ≡ hash_of_node mixed row.node) k low (λ j at. (kept j).hashed i row at)

  apart_at : (r s : ℕ) (row other : Row Node) → row_of t k r ≡ Some row → row_of t k s ≡ Some other → row.node ≡ other.node → r ≡ s
  apart_at r s row other = from_one (λ k. row_of t k r ≡ Some row → row_of t k s ≡ Some other → row.node ≡ other.node → r ≡ s) k low (λ j at too same. (kept j).apart r s row other at too same)

  put_at : (x : Table Node) → table_at (put_table t k x) k ≡ x
  put_at x = from_one (λ k. k ≤ 3 → table_at (put_table t k x) k ≡ x) k low (λ j le. here_put t j le x) high

  -- a row opened
  module _ (place : Spot) (row : Row Node) (at : row_of t k place.number ≡ Some row) (held : 1 ≤ holds_of t k place.number) (last : row.count ≡ 1) (u : Tables) (gone : u ≡ opened_at t k place) where
    opened_moved : HoldsAreMoved mixed t u (at_depth (k - 1) (edges_of row.node)) (at_depth k (one_at place.number))
    opened_moved =
        let less : Table Node = without_row (table_at t k) place.number in
        let left = put_table t k less in
        rows_moved mixed t left u (at_depth (k - 1) (edges_of row.node)) (at_depth k (one_at place.number))
        (ap rows_at gone ∙ same_rows_put t k (with_reserved less place.number place.hash) less refl)
        (dropped mixed t kept k low high place.number row at held last left refl)

    opened_reserved : IsReserved u k place
    opened_reserved =
        let less : Table Node = without_row (table_at t k) place.number in
        ap (λ v. reserved_at (table_at v k) place.number) gone
        ∙ ap (λ x. reserved_at x place.number) (put_at (with_reserved less place.number place.hash))
        ∙ get-insert_here total exact less.reserved place.number place.hash

    opened_formed : IsNode mixed k (set_of u (k - 1)) row.node
    opened_formed = subst (λ sets. IsNode mixed k sets row.node) (sym (ap (λ v. set_of v (k - 1)) gone ∙ sets_under t k _ (k - 1) (omega arith))) (form_at place.number row at)

    opened_new : HasNoNode (table_at u k) row.node
    opened_new r other there =
        let less : Table Node = without_row (table_at t k) place.number in
        let left : row_at less r ≡ Some other = sym (ap (λ v. row_of v k r) gone ∙ ap (λ x. row_at x r) (put_at (with_reserved less place.number place.hash))) ∙ there in
        at_remove (rows_at t k) place.number (λ q w. w.node ≢ row.node) (λ q w ne e same. ne (apart_at q place.number w row e at same)) r other left

    pub opened : row.hash ≡ place.hash → reserved_at (table_at t k) place.number ≡ None → IsOpened mixed t u k place row.node
    opened own free =
        record {
          was = ap (option_map (λ (r : Row Node). r.node)) at;
          hashed = sym own ∙ hash_at place.number row at;
          free = free;
          gone = gone;
          reserved = opened_reserved;
          formed = opened_formed;
          alone = stands_for_none mixed u opened_moved.kept k low row.node opened_formed opened_new;
          moved = opened_moved;
        }

  -- a row closed
  module _ (place : Spot) (node : Node) (fresh : row_of t k place.number ≡ None) (form : IsNode mixed k (set_of t (k - 1)) node) (hashed : place.hash ≡ hash_of_node mixed node)
      (none : HasNoNode (table_at t k) node) (held : (r : ℕ) → edges_of node r ≤ holds_of t (k - 1) r) (u : Tables) (back : u ≡ closed_at t k place node) where
    pub closed : IsClosed mixed t u k place node
    closed =
        let row = one_held place node in
        let more : Table Node = with_row (table_at t k) place.number row in
        let put = put_table t k more in
        let same = ap rows_at back ∙ same_rows_put t k _ more refl in
        record {
          there = ap (λ (all : ℕ → map.FinMap nat_cmp (Row Node)). option_map (λ (r : Row Node). r.node) (map.get (all k) place.number)) same
              ∙ ap (option_map (λ (r : Row Node). r.node)) (put_row t k low high place.number row);
          back = back;
          moved = rows_moved mixed t put u (at_depth k (one_at place.number)) (at_depth (k - 1) (edges_of node)) same
              (added mixed t kept k low high place.number node place.hash fresh form none held hashed put refl);
        }

  -- a place given up
  pub discarded : (place : Spot) (u : Tables) → u ≡ discarded_at t k place → HoldsAreMoved mixed t u nothing nothing
  discarded place u is =
      let same : rows_at u ≡ rows_at t = ap rows_at is ∙ same_rows_put t k _ (table_at t k) refl ∙ (λ i e. sym (own_rows t k e) i) in
      record {
        kept = subst (AllKept mixed) (sym same) kept;
        holds = λ d r. ap (λ all. holds_over all d r + 0) same;
      }

  -- no row has a node whose set no row stands for
  pub no_such_node : (node : Node) → StandsForNoRow t k node → HasNoNode (table_at t k) node
  no_such_node node = from_one (λ k. StandsForNoRow t k node → HasNoNode (table_at t k) node) k low
      (λ j none r row at same. none r (subst IsSome (sym at) refl)
      (ap (row_set (node_set (suc j) (set_of t j))) at ∙ ap (node_set (suc j) (set_of t j)) same ∙ ap (λ l. node_set (suc j) (set_of t l) node) (less_one j)))

  -- a held row with count 1, taken out
  pub taken : (i : ℕ) → 1 ≤ holds_of t k i → (count : ℕ) → IfSome (row_of t k i) (λ r. r.count ≡ count) → count ≤ 1
      → (node : Node) (place : Spot) → place.number ≡ i → IfSome (row_of t k i) (λ r. r.node ≡ node) → IfSome (row_of t k i) (λ r. r.hash ≡ place.hash) → reserved_at (table_at t k) i ≡ None
      → (u : Tables) → u ≡ opened_at t k place → IsOpened mixed t u k place node
  taken i held count counts few node place number nodes hashes free u gone =
      let s = there_row t k i held in
      let row = s.0 in
      let live = live_at mixed t kept k low i row s.1 in
      let counted : row.count ≡ count = if_at (λ r. r.count ≡ count) (row_of t k i) s.1 counts in
      let named : row.node ≡ node = if_at (λ r. r.node ≡ node) (row_of t k i) s.1 nodes in
      let own : row.hash ≡ place.hash = if_at (λ r. r.hash ≡ place.hash) (row_of t k i) s.1 hashes in
      let at : row_of t k place.number ≡ Some row = ap (row_of t k) number ∙ s.1 in
      let hold : 1 ≤ holds_of t k place.number = subst (λ q. 1 ≤ holds_of t k q) (sym number) held in
      let none : reserved_at (table_at t k) place.number ≡ None = ap (reserved_at (table_at t k)) number ∙ free in
      subst (IsOpened mixed t u k place) named (opened place row at hold (omega arith) u gone own none)
