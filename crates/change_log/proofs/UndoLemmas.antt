-- Each step taken back gives the tables that were there before.
use Rattle.std.specs.Prelude.{◌≡◌, ◌≢◌, ℕ, suc, ◌-◌, ◌≤◌, refl, Option, None, Some, IsSome, option_map}
use Rattle.std.proofs.Common.{sym, ◌∙◌, ap, subst, arith}
use Rattle.std.specs.Ordering.{nat_cmp}
use Rattle.std.specs.Cmp.{nat_cmp_total as total}
use Rattle.std.specs.FinMap as map
use Rattle.std.specs.FinMap.{nat_cmp-IsAntisymmetric as exact}
use Rattle.hypertrie_model.specs.MapLaws.{get-insert_here, get-insert_other, get-remove_here, get-remove_other, remove-insert}
use Rattle.edge_map.specs.declared.edge.Edge.TheVariants.{Node as ToRow}
use Rattle.node_table.specs.Table.{Row, Table, Spot, with_row, without_row, with_reserved, without_reserved}
use Rattle.trie_node.specs.declared.node.Node.{Node}
use Rattle.trie_node.specs.Sets.{edges_of}
use Rattle.trie_context.specs.declared.tables.Tables.{Tables}
use Rattle.trie_context.specs.Rows.{table_at, rows_at, row_of, node_of, node_set, set_of}
use Rattle.trie_context.specs.Holds.{count_of, holds_of, one_at, at_depth, nothing, RowsStay}
use Rattle.trie_context.specs.Kept.{AreKept, AreMoved}
use Rattle.trie_context.specs.Interned.{IsInterned}
use Rattle.trie_context.specs.Opened.{StandsForNoRow, one_held, discarded_at, HoldsAreMoved, IsOpened, IsClosed}
use Rattle.trie_context.specs.MoveLaws.{from_one, less_one, at_here, at_other, one_here, same_or_not, zero_at, moved_as, rows_as_before, node_stays}
use Rattle.trie_context.specs.NodeLaws.{node_row, node_set_is}
use Rattle.trie_context.specs.StayLaws.{as_before}
use Rattle.change_log.specs.PutLaws.{beside_put, here_put, came_by, reserved_by}

same_some : {A : Type 0} (x y : A) → Some x ≡ Some y → x ≡ y
same_some x y e = cc

not_some : {A G : Type 0} (x : A) → None ≡ Some x → G
not_some x e = absurd (let f : ⊥ = cc in f)

pub same_row : (n r : ℕ) → ToRow n ≡ ToRow r → n ≡ r
same_row n r e = cc

-- a row that is gone was there
removed : (rows : map.FinMap nat_cmp (Row Node)) (n r : ℕ) (row : Row Node) → map.get (map.remove rows n) r ≡ Some row → map.get rows r ≡ Some row
removed rows n r row at = same_or_not r n _
    (λ is. not_some row (sym (get-remove_here total exact rows n) ∙ ap (map.get (map.remove rows n)) (sym is) ∙ at))
    (λ ne. sym (get-remove_other total exact rows n r ne) ∙ at)

-- a row put in the place of another of the same node
replaced : (rows : map.FinMap nat_cmp (Row Node)) (n : ℕ) (new old : Row Node) → map.get rows n ≡ Some old → old.node ≡ new.node
    → (r : ℕ) (row : Row Node) → map.get (map.insert (map.remove rows n) n new) r ≡ Some row → (was : Row Node) × (map.get rows r ≡ Some was) × (was.node ≡ row.node)
replaced rows n new old at same r row there = same_or_not r n _
    (λ is.
    let here : new ≡ row = same_some new row (sym (get-insert_here total exact (map.remove rows n) n new) ∙ ap (map.get (map.insert (map.remove rows n) n new)) (sym is) ∙ there) in
    (old, ap (map.get rows) is ∙ at, same ∙ ap (λ (x : Row Node). x.node) here))
    (λ ne. (row, removed rows n r row (sym (get-insert_other total exact (map.remove rows n) n new r ne) ∙ there), refl))

module _ (mixed : ℕ → ℕ → ℕ → ℕ → ℕ) (d : ℕ) (low : 1 ≤ d) (high : d ≤ 3) where
  -- an opened row, closed with the node that it had
  module _ (t u v : Tables) (kept : AreKept mixed t) (place : Spot) (node : Node) (opened : IsOpened mixed t u d place node) (closed : IsClosed mixed u v d place node) where
    now_open : table_at u d ≡ with_reserved (without_row (table_at t d) place.number) place.number place.hash
    now_open = ap (λ w. table_at w d) opened.gone ∙ here_put t d low high _

    now_closed : table_at v d ≡ without_reserved (with_row (table_at u d) place.number (one_held place node)) place.number
    now_closed = ap (λ w. table_at w d) closed.back ∙ here_put u d low high _

    beside_closed : (e : ℕ) → e ≢ d → table_at v e ≡ table_at t e
    beside_closed e ne = ap (λ w. table_at w e) closed.back ∙ beside_put u d _ e ne ∙ ap (λ w. table_at w e) opened.gone ∙ beside_put t d _ e ne

    closed_rows : rows_at v d ≡ map.insert (map.remove (rows_at t d) place.number) place.number (one_held place node)
    closed_rows = ap (λ (x : Table Node). x.rows) now_closed ∙ ap (λ (x : Table Node). map.insert x.rows place.number (one_held place node)) now_open

    closed_reserved : (table_at v d).reserved ≡ (table_at t d).reserved
    closed_reserved =
        ap (λ (x : Table Node). x.reserved) now_closed
        ∙ ap (λ (x : Table Node). map.remove x.reserved place.number) now_open
        ∙ remove-insert total exact (table_at t d).reserved place.number place.hash opened.free

    closed_came : RowsStay v t
    closed_came = came_by t v d beside_closed (λ r row at.
        let old = node_row t d place.number node opened.was in
        replaced (rows_at t d) place.number (one_held place node) old.0 old.1 old.2 r row (sym (ap (λ m. map.get m r) closed_rows) ∙ at))

    pub closed_again : v ≡ t
    closed_again = as_before mixed t t v kept closed.moved.kept (rows_as_before t) closed_came (λ e r. omega (arith, opened.moved.holds e r, closed.moved.holds e r)) (reserved_by t v d beside_closed closed_reserved)

  -- a row that was made, opened and discarded
  module _ (t u : Tables) (kept : AreKept mixed t) (row : ℕ) (node : Node) (made : IsInterned mixed t u d node row None) where
    -- it wasn't there
    not_there : row_of t d row ≡ None
    not_there = by (row_of t d row) refl where
      none : (old : Row Node) → row_of t d row ≡ Some old → old.node ≡ node → ⊥
      none old at same =
          from_one (λ k. StandsForNoRow t k node → row_of t k row ≡ Some old → ⊥) d low
          (λ j none at. none row (subst IsSome (sym at) refl) (
          node_set_is t j row node (ap (option_map (λ (x : Row Node). x.node)) at ∙ ap Some same)
          ∙ ap (λ l. node_set (suc j) (set_of t l) node) (less_one j)))
          made.came at

      by : (o : Option (Row Node)) → row_of t d row ≡ o → row_of t d row ≡ None
      by None e = e
      by (Some old) e =
          let was = ap (option_map (λ (x : Row Node). x.node)) e in
          let same : old.node ≡ node = same_some old.node node (sym (node_stays t u made.stay d row old.node was) ∙ made.there) in
          absurd (none old e same)

    pub made_held : 1 ≤ holds_of u d row
    made_held = omega (arith, made.moved.holds d row, at_here d (one_at row) row, one_here row, at_other (d - 1) (edges_of node) d row (λ is. omega arith))

    pub made_alone : count_of (row_of u d row) ≤ 1
    made_alone = let none : count_of (row_of t d row) ≡ 0 = ap count_of not_there in omega (arith, made.counts d row, at_here d (one_at row) row, one_here row)

    module _ (w v : Tables) (place : Spot) (out : Node) (number : place.number ≡ row) (opened : IsOpened mixed u w d place out) (gone : v ≡ discarded_at w d place) (moved : HoldsAreMoved mixed w v nothing nothing) where
      same_out : out ≡ node
      same_out = same_some out node (sym opened.was ∙ ap (node_of u d) number ∙ made.there)

      out_open : table_at w d ≡ with_reserved (without_row (table_at u d) place.number) place.number place.hash
      out_open = ap (λ x. table_at x d) opened.gone ∙ here_put u d low high _

      out_gone : table_at v d ≡ without_reserved (table_at w d) place.number
      out_gone = ap (λ x. table_at x d) gone ∙ here_put w d low high _

      beside_gone : (e : ℕ) → e ≢ d → table_at v e ≡ table_at u e
      beside_gone e ne = ap (λ x. table_at x e) gone ∙ beside_put w d _ e ne ∙ ap (λ x. table_at x e) opened.gone ∙ beside_put u d _ e ne

      gone_rows : rows_at v d ≡ map.remove (rows_at u d) place.number
      gone_rows = ap (λ (x : Table Node). x.rows) out_gone ∙ ap (λ (x : Table Node). x.rows) out_open

      gone_reserved : (table_at v d).reserved ≡ (table_at u d).reserved
      gone_reserved =
          ap (λ (x : Table Node). x.reserved) out_gone
          ∙ ap (λ (x : Table Node). map.remove x.reserved place.number) out_open
          ∙ remove-insert total exact (table_at u d).reserved place.number place.hash opened.free

      gone_came : RowsStay v u
      gone_came = came_by u v d beside_gone (λ r now at. (now, removed (rows_at u d) place.number r now (sym (ap (λ m. map.get m r) gone_rows) ∙ at), refl))

      gone_holds : (e r : ℕ) → holds_of v e r ≡ holds_of t e r
      gone_holds e r =
          let same : at_depth (d - 1) (edges_of out) e r ≡ at_depth (d - 1) (edges_of node) e r = ap (λ n. at_depth (d - 1) (edges_of n) e r) same_out in
          let one : at_depth d (one_at place.number) e r ≡ at_depth d (one_at row) e r = ap (λ n. at_depth d (one_at n) e r) number in
          omega (arith, moved.holds e r, opened.moved.holds e r, made.moved.holds e r)

      pub unmade : v ≡ t
      unmade = as_before mixed t u v kept moved.kept made.stay gone_came gone_holds (λ e. reserved_by u v d beside_gone gone_reserved e ∙ made.moved.reserved e)

-- holds that were given are given back, where each row stayed
pub moved_back : (mixed : ℕ → ℕ → ℕ → ℕ → ℕ) (t u v : Tables) → AreKept mixed t → (gained : ℕ → ℕ → ℕ) → AreMoved mixed t u gained nothing → RowsStay t u → AreMoved mixed u v nothing gained → RowsStay v u → v ≡ t
moved_back mixed t u v kept gained there stay back came =
    as_before mixed t u v kept back.kept stay came (λ d r. omega (arith, there.holds d r, back.holds d r)) (λ d. back.reserved d ∙ there.reserved d)

-- the hold on a row that was found
pub found_back : (mixed : ℕ → ℕ → ℕ → ℕ → ℕ) (t u v : Tables) → AreKept mixed t → (d row : ℕ) (node : Node) → IsInterned mixed t u d node row (Some node) → AreMoved mixed u v nothing (at_depth d (one_at row)) → RowsStay v u → v ≡ t
found_back mixed t u v kept d row node found back came =
    moved_back mixed t u v kept (at_depth d (one_at row)) (moved_as found.moved (at_depth d (one_at row)) nothing (λ e r. omega (arith, zero_at (d - 1) e r))) found.stay back came
