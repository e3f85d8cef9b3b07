-- The maps of a row's slices are those of its node.
use Rattle.std.specs.Prelude.{◌≡◌, ℕ, zero, suc, ◌+◌, ◌≤◌, refl, Option, None, Some}
use Rattle.std.proofs.Common.{sym, ◌∙◌, ap, subst, arith}
use Rattle.std.specs.Ordering.{nat_cmp}
use Rattle.std.specs.Cmp.{nat_cmp_total as total}
use Rattle.std.specs.FinMap as map
use Rattle.std.specs.FinMap.{nat_cmp-IsAntisymmetric as exact}
use Rattle.std.specs.FinSet as set
use Rattle.hypertrie_model.specs.FoldLaws.{sum_over-empty}
use Rattle.hypertrie_model.specs.IdSets.{IdSet}
use Rattle.hypertrie_model.specs.MapLaws.{same_maps}
use Rattle.hypertrie_model.specs.Slices.{slice}
use Rattle.edge_map.specs.declared.edge.Edge.{Edge}
use Rattle.edge_map.specs.declared.edge.Edge.TheVariants.{Key, Node as ToRow}
use Rattle.edge_map.specs.Edges.{Edges}
use Rattle.trie_node.specs.declared.node.Node.{Node}
use Rattle.trie_node.specs.declared.node.Node.TheVariants.{Single, Full}
use Rattle.trie_node.specs.Forms.{IsPairEdge, IsPairNode, IsTripleNode, AreSlices}
use Rattle.trie_node.specs.Sets.{leads, edges_in, edges_of, set_hash}
use Rattle.trie_context.specs.declared.tables.Tables.{Tables}
use Rattle.trie_context.specs.Rows.{node_of, node_set, set_of}
use Rattle.trie_context.specs.EdgeLaws.{edge_filled, edge_named}
use Rattle.trie_context.specs.FitEdges.{StandsAt}
use Rattle.trie_context.specs.Kept.{AreKept}
use Rattle.trie_context.specs.NodeLaws.{node_formed, node_set_is}
use Rattle.trie_change.specs.PairLaws.{lone_leads}
use Rattle.trie_change.specs.Rooms.{AllFit, FitsSome, AreSlicesAt}

-- the edges of slices fit
pub slices_fit : (t : Tables) (d : ℕ) (H : IdSet) (i : ℕ) (m : Edges) → AreSlicesAt t d H i m → AllFit t d m
slices_fit t d H i m slices k = by (map.get m k) (slices k) where
  by : (o : Option Edge) → StandsAt t d (slice nat_cmp H i k) o → FitsSome t d o
  by None stands = tt
  by (Some e) stands = stands.0

-- slices stand in tables whose rows of that depth stand for the same sets
pub slices_below : (t u : Tables) (d : ℕ) → ((r : ℕ) → set_of u d r ≡ set_of t d r) → (H : IdSet) (i : ℕ) (m : Edges) → AreSlicesAt t d H i m → AreSlicesAt u d H i m
slices_below t u d same H i m slices k = by d same (slice nat_cmp H i k) (map.get m k) (slices k) where
  by : (d : ℕ) → ((r : ℕ) → set_of u d r ≡ set_of t d r) → (S : IdSet) (o : Option Edge) → StandsAt t d S o → StandsAt u d S o
  by d same S None stands = stands
  by zero same S (Some e) stands = absurd stands.0
  by (suc zero) same S (Some (Key x)) stands = stands
  by (suc zero) same S (Some (ToRow n)) stands = (subst (λ S. 2 ≤ set.len S) (sym (same n)) stands.0, same n ∙ stands.1)
  by (suc (suc d)) same S (Some (Key x)) stands = stands
  by (suc (suc d)) same S (Some (ToRow n)) stands = (subst (λ S. 1 ≤ set.len S) (sym (same n)) stands.0, same n ∙ stands.1)

module _ (mixed : ℕ → ℕ → ℕ → ℕ → ℕ) (t : Tables) (kept : AreKept mixed t) where
  same_edge : (d : ℕ) (S : IdSet) (o p : Option Edge) → StandsAt t d S o → StandsAt t d S p → o ≡ p
  same_edge d S None None a b = refl
  same_edge d S None (Some f) a b = absurd (edge_filled t d f b.0 (b.1 ∙ a))
  same_edge d S (Some e) None a b = absurd (edge_filled t d e a.0 (a.1 ∙ b))
  same_edge d S (Some e) (Some f) a b = ap Some (edge_named mixed t kept d e f a.0 b.0 (a.1 ∙ sym b.1))

  -- the slices at a position have one map
  pub same_map : (d : ℕ) (H : IdSet) (i : ℕ) (m n : Edges) → AreSlicesAt t d H i m → AreSlicesAt t d H i n → m ≡ n
  same_map d H i m n a b = same_maps total exact m n (λ k. same_edge d (slice nat_cmp H i k) (map.get m k) (map.get n k) (a k) (b k))

  edges_same : (d : ℕ) (H G : IdSet) (i : ℕ) (m n : Edges) → H ≡ G → AreSlicesAt t d H i m → AreSlicesAt t d G i n → (r : ℕ) → edges_in m r ≡ edges_in n r
  edges_same d H G i m n is a b r = ap (λ e. edges_in e r) (same_map d H i m n a (subst (λ S. AreSlicesAt t d S i n) (sym is) b))

  -- the edges at both positions of a row of pairs
  pub pair_edges_are : (row : ℕ) (node : Node) → node_of t 2 row ≡ Some node → (a b : Edges) → AreSlicesAt t 1 (set_of t 2 row) 0 a → AreSlicesAt t 1 (set_of t 2 row) 1 b → (r : ℕ) → edges_in a r + edges_in b r ≡ edges_of node r
  pair_edges_are row node at a b first second r = by node (node_formed mixed t kept 1 row node at) (node_set_is t 1 row node at) where
    by : (node : Node) → IsPairNode (set_hash mixed 2) (set_of t 1) node → set_of t 2 row ≡ node_set 2 (set_of t 1) node → edges_in a r + edges_in b r ≡ edges_of node r
    by (Single p) form is =
        let none = lone_leads (set_of t 1) p.0.0 p.1.0 0 a (omega arith) (subst (λ S. AreSlices (IsPairEdge (set_of t 1)) (set_of t 1) S 0 a) is first) r in
        let neither = lone_leads (set_of t 1) p.0.0 p.1.0 1 b (omega arith) (subst (λ S. AreSlices (IsPairEdge (set_of t 1)) (set_of t 1) S 1 b) is second) r in
        omega arith
    by (Full s h x y z) form is =
        let one = edges_same 1 _ _ 0 a x is first form.first r in
        let two = edges_same 1 _ _ 1 b y is second form.second r in
        let three : edges_in z r ≡ 0 = ap (λ m. edges_in m r) form.third ∙ sum_over-empty total exact (λ _ e. leads e r) in
        omega arith

  -- the edges at the three positions of a row of triples
  pub triple_edges_are : (row : ℕ) (node : Node) → node_of t 3 row ≡ Some node → (a b c : Edges) → AreSlicesAt t 2 (set_of t 3 row) 0 a → AreSlicesAt t 2 (set_of t 3 row) 1 b → AreSlicesAt t 2 (set_of t 3 row) 2 c
      → (r : ℕ) → edges_in a r + edges_in b r + edges_in c r ≡ edges_of node r
  triple_edges_are row node at a b c first second third r = by node (node_formed mixed t kept 2 row node at) (node_set_is t 2 row node at) where
    by : (node : Node) → IsTripleNode (set_hash mixed 3) (set_of t 2) node → set_of t 3 row ≡ node_set 3 (set_of t 2) node → edges_in a r + edges_in b r + edges_in c r ≡ edges_of node r
    by (Single p) form is = absurd form
    by (Full s h x y z) form is =
        let one = edges_same 2 _ _ 0 a x is first form.first r in
        let two = edges_same 2 _ _ 1 b y is second form.second r in
        let three = edges_same 2 _ _ 2 c z is third form.third r in
        omega arith
