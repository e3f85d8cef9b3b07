-- A node that is found, or put in; and that rows stay where edges are given up that another row has too.
use Rattle.std.specs.Prelude.{◌≡◌, ℕ, zero, suc, ◌+◌, ◌-◌, ◌<◌, ◌≤◌, refl, Option, None, Some, option_map}
use Rattle.std.proofs.Common.{sym, ◌∙◌, ap, subst, arith}
use Rattle.std.specs.Ordering.{nat_cmp}
use Rattle.std.specs.Cmp.{nat_cmp_total as total}
use Rattle.std.specs.FinMap as map
use Rattle.std.specs.FinMap.{nat_cmp-IsAntisymmetric as exact}
use native.Mathlib.Decide.{dec_lt}
use Rattle.hypertrie_model.specs.FoldLaws.{part, sum_over-alike, sum_over-part}
use Rattle.node_table.specs.Table.{Row, Table, with_row, HasNoNode, HasNoNodeUnder}
use Rattle.trie_node.specs.declared.node.Node.{Node}
use Rattle.trie_node.specs.Sets.{edges_of, hash_of_node}
use Rattle.trie_context.specs.declared.tables.Tables.{Tables}
use Rattle.trie_context.specs.Rows.{table_at, put_table, rows_at, row_of, node_of}
use Rattle.trie_context.specs.Holds.{count_of, edges_from, holds_of, one_at, at_depth, nothing, RowsStay}
use Rattle.trie_context.specs.Kept.{AreKept, AreMoved}
use Rattle.trie_context.specs.RowLaws.{counted}
use Rattle.trie_context.specs.MoveLaws.{from_one, at_here, at_other, moved_on, rows_stay_on, same_or_not}
use Rattle.trie_context.proofs.TableMoves.{bumped, count_stays, put_row}

-- no row has this node where none has it under its hash
pub no_row : (mixed : ℕ → ℕ → ℕ → ℕ → ℕ) (t : Tables) → AreKept mixed t → (k : ℕ) → 1 ≤ k → (node : Node) (hash : ℕ) → hash ≡ hash_of_node mixed node → HasNoNodeUnder (table_at t k) node hash → HasNoNode (table_at t k) node
no_row mixed t kept k low node hash hashed none = from_one (λ k. HasNoNodeUnder (table_at t k) node hash → HasNoNode (table_at t k) node) k low
    (λ j none r row at same. none r row at ((kept j).hashed r row at ∙ ap (hash_of_node mixed) same ∙ sym hashed) same) none

-- rows stay where edges are given up that a row above has too
module _ (mixed : ℕ → ℕ → ℕ → ℕ → ℕ) (t u : Tables) (kept : AreKept mixed t) (j : ℕ) (n : ℕ → ℕ) (moved : AreMoved mixed t u nothing (at_depth j n)) (came : RowsStay u t)
    (above : (d : ℕ) → j < d → table_at u d ≡ table_at t d) (shared : (r : ℕ) → n r ≤ edges_from (rows_at t (suc j)) r) where
  -- a row with a count is there, with its node
  row_stays : (d r : ℕ) (row : Row Node) → row_of t d r ≡ Some row → 0 < count_of (row_of u d r) → (now : Row Node) × (row_of u d r ≡ Some now) × (now.node ≡ row.node)
  row_stays d r row at pos = by (row_of u d r) refl where
    same_node : (x y : Row Node) → Some x ≡ Some y → x.node ≡ y.node
    same_node x y e = let is : x ≡ y = cc in ap (λ (z : Row Node). z.node) is

    by : (o : Option (Row Node)) → row_of u d r ≡ o → (now : Row Node) × (row_of u d r ≡ Some now) × (now.node ≡ row.node)
    by None e = absurd (let c : count_of (row_of u d r) ≡ 0 = ap count_of e in omega arith)
    by (Some now) e = let was = came d r now e in (now, e, sym was.2 ∙ same_node was.0 row (sym was.1 ∙ at))

  live_row : (d r : ℕ) (row : Row Node) → row_of t (suc d) r ≡ Some row → 1 ≤ count_of (row_of t (suc d) r)
  live_row d r row at = subst (λ o. 1 ≤ count_of o) (sym at) ((kept d).live r row at)

  -- the edges into a depth are the same where all rows above it stay
  StayAt : ℕ → Type 0
  StayAt d = (r : ℕ) (row : Row Node) → row_of t d r ≡ Some row → (now : Row Node) × (row_of u d r ≡ Some now) × (now.node ≡ row.node)

  same_edges : (d : ℕ) → StayAt d → (r : ℕ) → edges_from (rows_at u d) r ≡ edges_from (rows_at t d) r
  unfolding StayAt
  same_edges d stay r = sum_over-alike total exact (λ _ row. edges_of row.node r) (λ _ row. edges_of row.node r) (rows_at u d) (rows_at t d) (λ q. by q (row_of u d q) (row_of t d q) refl refl) where
    by : (q : ℕ) (o p : Option (Row Node)) → row_of u d q ≡ o → row_of t d q ≡ p → part (λ _ (row : Row Node). edges_of row.node r) q (row_of u d q) ≡ part (λ _ (row : Row Node). edges_of row.node r) q (row_of t d q)
    by q None None e f = ap (part (λ _ (row : Row Node). edges_of row.node r) q) (e ∙ sym f)
    by q (Some w) None e f = absurd (let was = came d q w e in let c : Some was.0 ≡ None = sym was.1 ∙ f in cc)
    by q None (Some v) e f = absurd (let now = stay q v f in let c : Some now.0 ≡ None = sym now.1 ∙ e in cc)
    by q (Some w) (Some v) e f =
        let now = stay q v f in
        ap (part (λ _ (row : Row Node). edges_of row.node r) q) now.1 ∙ ap (λ n. edges_of n r) now.2 ∙ sym (ap (part (λ _ (row : Row Node). edges_of row.node r) q) f)

  -- from the rows above down: `i` depths below the one that kept its rows
  stays_above : (d : ℕ) → j < d → StayAt d
  unfolding StayAt
  stays_above d lt r row at = (row, ap (λ (x : Table Node). map.get x.rows r) (above d lt) ∙ at, refl)

  -- the rows of depth d stay where those above it do
  stays_next : (d : ℕ) → StayAt (suc d) → StayAt d
  unfolding StayAt
  stays_next zero stay r row at = absurd (let f : None ≡ Some row = sym (map.get-empty nat_cmp r) ∙ at in cc)
  stays_next (suc d) stay r row at =
      let edges = same_edges (suc (suc d)) stay r in
      let old = counted mixed (rows_at t) kept (suc d) r in
      let new = counted mixed (rows_at u) moved.kept (suc d) r in
      let holds = moved.holds (suc d) r in
      let live = live_row d r row at in
      row_stays (suc d) r row at (same_or_not (suc d) j _
      (λ is.
      let n_here : at_depth j n (suc d) r ≡ n r = ap (λ e. at_depth j n e r) is ∙ at_here j n r in
      let enough : n r ≤ edges_from (rows_at t (suc (suc d))) r = subst (λ e. n r ≤ edges_from (rows_at t (suc e)) r) (sym is) (shared r) in
      omega arith)
      (λ ne. let none = at_other j n (suc d) r ne in omega arith))

  stays_below : (d i : ℕ) → d + i ≡ suc j → StayAt d
  stays_below d zero is = stays_above d (omega arith)
  stays_below d (suc i) is = stays_next d (stays_below (suc d) i (omega arith))

  pub rows_stay : RowsStay t u
  unfolding StayAt
  rows_stay d = elim (dec_lt j d) as (λ _. StayAt d) [
    | yes lt ↦ stays_above d lt
    | no ge ↦ stays_below d (suc j - d) (omega arith)
  ]

-- a node that was found: its row gets a hold, and its edges are given up
module _ (mixed : ℕ → ℕ → ℕ → ℕ → ℕ) (t : Tables) (kept : AreKept mixed t) (k : ℕ) (low : 1 ≤ k) (high : k ≤ 3) (i : ℕ) (row : Row Node) (at : row_of t k i ≡ Some row) (u : Tables)
    (is : u ≡ put_table t k (with_row (table_at t k) i (record row { count = row.count + 1 }))) where
  pub found_moved : AreMoved mixed t u (at_depth k (one_at i)) nothing
  found_moved = bumped mixed t kept k low high i row at u is

  pub found_held : (node : Node) → ((r : ℕ) → edges_of node r ≤ holds_of t (k - 1) r) → (r : ℕ) → edges_of node r ≤ holds_of u (k - 1) r
  found_held node held r = omega (arith, held r, found_moved.holds (k - 1) r)

  module _ (node : Node) (same : row.node ≡ node) (v : Tables) (given : AreMoved mixed u v nothing (at_depth (k - 1) (edges_of node))) (came : RowsStay v u) (above : (d : ℕ) → k - 1 < d → table_at v d ≡ table_at u d) where
    pub found_on : AreMoved mixed t v (at_depth k (one_at i)) (at_depth (k - 1) (edges_of node))
    found_on = moved_on found_moved given (at_depth k (one_at i)) (at_depth (k - 1) (edges_of node)) (λ d r. omega arith)

    found_row : row_of u k i ≡ Some (record row { count = row.count + 1 })
    found_row = ap (λ w. row_of w k i) is ∙ put_row t k low high i (record row { count = row.count + 1 })

    pub found_there : node_of v k i ≡ Some node
    found_there = ap (option_map (λ (r : Row Node). r.node)) (ap (λ (x : Table Node). map.get x.rows i) (above k (omega arith)) ∙ found_row) ∙ ap Some same

    pub found_stays : RowsStay t v
    found_stays = rows_stay_on t u v (subst (λ w. RowsStay t w) (sym is) (count_stays t k low high i (row.count + 1) row at))
        (rows_stay mixed u v found_moved.kept (k - 1) (edges_of node) given came above shared) where
          next : k ≡ suc (k - 1)
          next = omega arith

          shared : (r : ℕ) → edges_of node r ≤ edges_from (rows_at u (suc (k - 1))) r
          shared r = subst (λ e. edges_of node r ≤ edges_from (rows_at u e) r) next
              (subst (λ n. edges_of n r ≤ edges_from (rows_at u k) r) same (sum_over-part total exact (rows_at u k) (λ _ w. edges_of w.node r) i (record row { count = row.count + 1 }) found_row))
