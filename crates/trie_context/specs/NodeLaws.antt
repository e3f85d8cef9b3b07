-- What holds of the node of a row: its set, its form, and that the rows of its edges are there.
use Rattle.std.specs.Prelude.{◌≡◌, ℕ, zero, suc, ◌≤◌, refl, Option, None, Some, IsSome, option_map}
use Rattle.std.proofs.Common.{sym, ◌∙◌, ap, subst, arith}
use Rattle.std.specs.Cmp.{nat_cmp_total as total}
use Rattle.std.specs.FinMap as map
use Rattle.std.specs.FinMap.{nat_cmp-IsAntisymmetric as exact}
use Rattle.hypertrie_model.specs.FoldLaws.{sum_over-part}
use Rattle.edge_map.specs.declared.edge.Edge.{Edge}
use Rattle.edge_map.specs.declared.edge.Edge.TheVariants.{Key, Node as ToRow}
use Rattle.edge_map.specs.Edges.{Edges}
use Rattle.node_table.specs.Table.{Row}
use Rattle.trie_node.specs.declared.node.Node.{Node}
use Rattle.trie_node.specs.declared.node.Node.TheVariants.{Single, Full}
use Rattle.trie_node.specs.Sets.{leads, edges_in, edges_of, map_at}
use Rattle.trie_context.specs.declared.tables.Tables.{Tables}
use Rattle.trie_context.specs.Rows.{rows_at, row_of, node_of, node_set, row_set, set_of, LeadsToRow}
use Rattle.trie_context.specs.Holds.{count_of, holds_of, RowsStay}
use Rattle.trie_context.specs.Kept.{IsNode, AreKept}
use Rattle.trie_context.specs.RowLaws.{fair_at, node_set_same}
use Rattle.trie_context.specs.MoveLaws.{if_same, there_row}
use Rattle.trie_context.specs.StayLaws.{counted_there, sets_stay}

-- the row of a node
pub node_row : (t : Tables) (d r : ℕ) (node : Node) → node_of t d r ≡ Some node → (row : Row Node) × (row_of t d r ≡ Some row) × (row.node ≡ node)
node_row t d r node at = by (row_of t d r) refl at where
  same : (x y : Node) → Some x ≡ Some y → x ≡ y
  same x y e = cc

  by : (o : Option (Row Node)) → row_of t d r ≡ o → option_map (λ (row : Row Node). row.node) o ≡ Some node → (row : Row Node) × (row_of t d r ≡ Some row) × (row.node ≡ node)
  by None e f = absurd (let g : None ≡ Some node = f in cc)
  by (Some row) e f = (row, e, same row.node node f)

-- a row stands for the set of its node
pub node_set_is : (t : Tables) (d r : ℕ) (node : Node) → node_of t (suc d) r ≡ Some node → set_of t (suc d) r ≡ node_set (suc d) (set_of t d) node
node_set_is t d r node at =
    let s = node_row t (suc d) r node at in
    ap (row_set (node_set (suc d) (set_of t d))) s.1 ∙ ap (node_set (suc d) (set_of t d)) s.2

-- an edge leads to a row that is there where the row has a count
pub edge_counted : (t : Tables) (d : ℕ) (e : Edge) → ((r : ℕ) → leads e r ≤ count_of (row_of t d r)) → LeadsToRow t d e
edge_counted t d (Key x) few = tt
edge_counted t d (ToRow n) few =
    let one : leads (ToRow n) n ≡ 1 = if_same n n 1 0 refl in
    let s = counted_there t d n (omega (arith, one, few n)) in
    subst IsSome (sym s.1) refl

pub map_counted : (t : Tables) (d : ℕ) (m : Edges) → ((r : ℕ) → edges_in m r ≤ count_of (row_of t d r)) → (k : ℕ) (e : Edge) → map.get m k ≡ Some e → LeadsToRow t d e
map_counted t d m few k e at = edge_counted t d e (λ r. omega (arith, sum_over-part total exact m (λ _ f. leads f r) k e at, few r))

-- the edges of a position are among those of the node
pub edges_at : (node : Node) (pos : ℕ) (m : Edges) → map_at node pos ≡ Some m → (r : ℕ) → edges_in m r ≤ edges_of node r
edges_at node pos m at r = by node pos at where
  same : (x y : Edges) → Some x ≡ Some y → x ≡ y
  same x y e = cc

  by : (node : Node) (pos : ℕ) → map_at node pos ≡ Some m → edges_in m r ≤ edges_of node r
  by (Single p) pos e = absurd (let f : None ≡ Some m = e in cc)
  by (Full s h a b c) zero e = let is : edges_in a r ≡ edges_in m r = ap (λ n. edges_in n r) (same a m e) in omega arith
  by (Full s h a b c) (suc zero) e = let is : edges_in b r ≡ edges_in m r = ap (λ n. edges_in n r) (same b m e) in omega arith
  by (Full s h a b c) (suc (suc pos)) e = let is : edges_in c r ≡ edges_in m r = ap (λ n. edges_in n r) (same c m e) in omega arith

module _ (mixed : ℕ → ℕ → ℕ → ℕ → ℕ) (t : Tables) (kept : AreKept mixed t) where
  pub node_formed : (d r : ℕ) (node : Node) → node_of t (suc d) r ≡ Some node → IsNode mixed (suc d) (set_of t d) node
  node_formed d r node at = let s = node_row t (suc d) r node at in subst (IsNode mixed (suc d) (set_of t d)) s.2 ((kept d).formed r s.0 s.1)

  -- the rows below have counts for the edges of a node
  pub node_counted : (d q : ℕ) (node : Node) → node_of t (suc d) q ≡ Some node → (r : ℕ) → edges_of node r ≤ count_of (row_of t d r)
  node_counted d q node at r =
      let s = node_row t (suc d) q node at in
      let same : edges_of s.0.node r ≡ edges_of node r = ap (λ n. edges_of n r) s.2 in
      omega (arith, sum_over-part total exact (rows_at t (suc d)) (λ _ w. edges_of w.node r) q s.0 s.1, fair_at mixed (rows_at t) kept d r)

  -- each edge of a node leads to a row that is there
  pub edges_there : (d q : ℕ) (node : Node) → node_of t (suc d) q ≡ Some node → (pos : ℕ) (m : Edges) → map_at node pos ≡ Some m → (k : ℕ) (e : Edge) → map.get m k ≡ Some e → LeadsToRow t d e
  edges_there d q node at pos m is = map_counted t d m (λ r. omega (arith, edges_at node pos m is r, node_counted d q node at r))

  -- a node with held edges stands for the same set where rows stay
  module _ (u : Tables) (stay : RowsStay t u) (node : Node) where
    pub held_set_stays : (d : ℕ) → ((r : ℕ) → edges_of node r ≤ holds_of t d r) → node_set (suc d) (set_of u d) node ≡ node_set (suc d) (set_of t d) node
    held_set_stays d held = sym (node_set_same (suc d) (set_of t d) (set_of u d) node (λ r pos.
        let s = there_row t d r (omega (arith, held r, pos)) in
        sym (sets_stay mixed t u kept stay d r s.0 s.1)))

    -- the row that was made of it, or found, stands for the set that it stood for
    pub interned_set : (d k : ℕ) → ((r : ℕ) → edges_of node r ≤ holds_of t d r) → node_of u (suc d) k ≡ Some node → set_of u (suc d) k ≡ node_set (suc d) (set_of t d) node
    interned_set d k held at = node_set_is u d k node at ∙ held_set_stays d held
