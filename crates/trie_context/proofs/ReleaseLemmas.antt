-- Edges given up one by one, and a row given up with its edges.
use Rattle.std.specs.Prelude.{◌≡◌, ℕ, ◌+◌, ◌-◌, ◌≤◌, refl, true, false, List, [], ◌∷◌, Option, None, Some, IfSome, IsSome}
use Rattle.std.proofs.Common.{sym, ◌∙◌, ap, subst, arith}
use Rattle.trie_depth.specs.declared.id.Id.{Id}
use Rattle.edge_map.specs.declared.edge.Edge.{Edge}
use Rattle.edge_map.specs.declared.edge.Edge.TheVariants.{Node as ToRow}
use Rattle.edge_map.specs.Edges.{Edges}
use Rattle.node_table.specs.Table.{Row, without_row}
use Rattle.trie_node.specs.declared.node.Node.{Node}
use Rattle.trie_node.specs.Sets.{leads, edges_in, edges_of}
use Rattle.trie_context.specs.declared.tables.Tables.{Tables}
use Rattle.trie_context.specs.Rows.{table_at, put_table, row_of}
use Rattle.trie_context.specs.Holds.{holds_of, one_at, at_depth, nothing, RowsStay}
use Rattle.trie_context.specs.Kept.{AreKept, AreMoved}
use Rattle.trie_context.specs.RowLaws.{row_low}
use Rattle.trie_context.specs.MoveLaws.{from_one, at_here, at_none, at_other, at_same, at_sum, moved_as, if_same, moved_on, rows_stay_on, there_row, held_there}
use Rattle.trie_context.proofs.TableMoves.{dropped, drop_came}
use Rattle.trie_context.proofs.WalkLemmas.{edges_along}

pub if_at : {A : Type 0} (P : A → Type 0) (o : Option A) {x : A} → o ≡ Some x → IfSome o P → P x
if_at P o at h = subst (λ q. IfSome q P) at h

pub some_row : (t : Tables) (d i : ℕ) → IsSome (row_of t d i) → (row : Row Node) × (row_of t d i ≡ Some row)
some_row t d i there = by (row_of t d i) there where
  by : (o : Option (Row Node)) → IsSome o → (row : Row Node) × (o ≡ Some row)
  by None h = absurd (let f : false ≡ true = h in cc)
  by (Some row) h = (row, refl)

pub live_at : (mixed : ℕ → ℕ → ℕ → ℕ → ℕ) (t : Tables) → AreKept mixed t → (k : ℕ) → 1 ≤ k → (i : ℕ) (row : Row Node) → row_of t k i ≡ Some row → 1 ≤ row.count
live_at mixed t kept k low i row = from_one (λ k. row_of t k i ≡ Some row → 1 ≤ row.count) k low (λ j at. (kept j).live i row at)

-- a row that a held edge leads to has a hold, and so a depth of one or more
pub edge_held : (t : Tables) (d : ℕ) (e : Edge) (n : ℕ) → e ≡ ToRow n → ((r : ℕ) → leads e r ≤ holds_of t d r) → 1 ≤ holds_of t d n
edge_held t d e n is held = let one : leads e n ≡ 1 = ap (λ f. leads f n) is ∙ if_same n n 1 0 refl in omega (arith, held n, one)

pub edge_low : (t : Tables) (d : ℕ) (e : Edge) (n : ℕ) → e ≡ ToRow n → ((r : ℕ) → leads e r ≤ holds_of t d r) → 1 ≤ d
edge_low t d e n is held = row_low t d n (held_there t d n (edge_held t d e n is held))

module _ (mixed : ℕ → ℕ → ℕ → ℕ → ℕ) where
  pub walk_begins : (t : Tables) → AreKept mixed t → (d : ℕ) (m : Edges) (all : List (Id × Edge)) → ((r : ℕ) → edges_in m r ≡ edges_along all r) → AreMoved mixed t t (at_depth d (edges_along all)) (at_depth d (edges_in m))
  walk_begins t kept d m all same = record { kept = kept; holds = λ e r. omega (arith, at_same d (edges_in m) (edges_along all) same e r); reserved = λ e. refl }

  module _ (first t : Tables) (d : ℕ) (m : Edges) (left : List (Id × Edge)) (so_far : AreMoved mixed first t (at_depth d (edges_along left)) (at_depth d (edges_in m))) where
    -- at the end of the walk
    pub walk_ends : left ≡ [] → AreMoved mixed first t nothing (at_depth d (edges_in m))
    walk_ends none = moved_as so_far nothing (at_depth d (edges_in m)) (λ e r. omega (arith, at_none d (edges_along left) (λ q. ap (λ es. edges_along es q) none) e r))

    module _ (entry : Id × Edge) (rest : List (Id × Edge)) (next : left ≡ entry ∷ rest) where
      one_edge : (r : ℕ) → edges_along left r ≡ leads entry.1 r + edges_along rest r
      one_edge r = ap (λ es. edges_along es r) next

      -- the next edge is held
      pub walk_held : ((r : ℕ) → edges_in m r ≤ holds_of first d r) → (r : ℕ) → leads entry.1 r ≤ holds_of t d r
      walk_held held r = omega (arith, so_far.holds d r, at_here d (edges_along left) r, at_here d (edges_in m) r, one_edge r, held r)

      -- and then given up
      pub walk_on : (u : Tables) → AreMoved mixed t u nothing (at_depth d (leads entry.1)) → AreMoved mixed first u (at_depth d (edges_along rest)) (at_depth d (edges_in m))
      walk_on u given = moved_on so_far given (at_depth d (edges_along rest)) (at_depth d (edges_in m)) (λ e r. omega (arith, at_sum d (edges_along left) (leads entry.1) (edges_along rest) one_edge e r))

  -- a row whose last hold is given up
  module _ (t : Tables) (kept : AreKept mixed t) (k : ℕ) (low : 1 ≤ k) (high : k ≤ 3) (i : ℕ) (held : 1 ≤ holds_of t k i) (few : (row : Row Node) → row_of t k i ≡ Some row → row.count ≤ 1)
      (node : Node) (is : IfSome (row_of t k i) (λ row. row.node ≡ node)) (u : Tables) (gone : u ≡ put_table t k (without_row (table_at t k) i)) where
    pub row_dropped : AreMoved mixed t u (at_depth (k - 1) (edges_of node)) (at_depth k (one_at i))
    row_dropped =
        let s = there_row t k i held in
        let live = live_at mixed t kept k low i s.0 s.1 in
        let one = few s.0 s.1 in
        subst (λ n. AreMoved mixed t u (at_depth (k - 1) (edges_of n)) (at_depth k (one_at i))) (if_at (λ row. row.node ≡ node) (row_of t k i) s.1 is)
        (dropped mixed t kept k low high i s.0 s.1 held (omega arith) u gone)

    pub dropped_edges : (r : ℕ) → edges_of node r ≤ holds_of u (k - 1) r
    dropped_edges r = omega (arith, row_dropped.holds (k - 1) r, at_here (k - 1) (edges_of node) r, at_other k (one_at i) (k - 1) r (λ is. omega arith))

    pub dropped_on : (v : Tables) → AreMoved mixed u v nothing (at_depth (k - 1) (edges_of node)) → AreMoved mixed t v nothing (at_depth k (one_at i))
    dropped_on v given = moved_on row_dropped given nothing (at_depth k (one_at i)) (λ e r. omega arith)

    pub dropped_rows : (v : Tables) → RowsStay v u → RowsStay v t
    dropped_rows v came = rows_stay_on v u t came (subst (λ w. RowsStay w t) (sym gone) (drop_came t k low high i))
