-- What the row of a set of triples says, and the one triple of a set of one.
use Rattle.std.specs.Prelude.{◌≡◌, ℕ, zero, suc, ◌<◌, ◌≤◌, ◌∷◌, refl, Option, None, Some, IsSome, IfSome, true, false}
use Rattle.std.proofs.Common.{sym, ◌∙◌, ap, subst, arith}
use Rattle.std.proofs.lemmas.Cmp.{lists_total}
use Rattle.std.specs.Ordering.{nat_cmp}
use Rattle.std.specs.Cmp.{nat_cmp_total as total}
use Rattle.std.specs.Cmp.Lexicographic.{slice_cmp}
use Rattle.std.specs.FinMap as map
use Rattle.std.specs.FinMap.{nat_cmp-IsAntisymmetric as exact}
use Rattle.std.specs.FinSet.{slice_cmp-IsAntisymmetric}
use Rattle.std.specs.FinSet as set
use Rattle.hypertrie_model.specs.IdSets.{IdSet}
use Rattle.hypertrie_model.specs.Sets.{has, empty, single}
use Rattle.hypertrie_model.specs.SetLaws.{tied-itself, has-single}
use Rattle.hypertrie_model.specs.MapLaws.{same_maps}
use Rattle.hypertrie_model.specs.FoldLaws.{sum_over-part, xor_over-empty}
use Rattle.hypertrie_model.specs.Unions.{has_under}
use Rattle.hypertrie_model.specs.UnionLaws.{has-union_over}
use Rattle.hypertrie_model.specs.UnionSizes.{len-union_over, union_over-empty}
use Rattle.hypertrie_model.specs.SliceSizes.{slice-empty, one_is}
use Rattle.trie_depth.specs.declared.id.Pair.{Pair}
use Rattle.trie_depth.specs.Tuples.{pair_tuple}
use Rattle.edge_map.specs.declared.edge.Edge.{Edge}
use Rattle.edge_map.specs.declared.edge.Edge.TheVariants.{Node as ToRow}
use Rattle.edge_map.specs.Edges.{Edges}
use Rattle.node_table.specs.Table.{Row}
use Rattle.trie_node.specs.declared.node.Node.{Node}
use Rattle.trie_node.specs.declared.node.Node.TheVariants.{Single, Full}
use Rattle.trie_node.specs.Sets.{edge_set, pair_set_of, triple_set_of, map_at, size_of, tuple_mix, set_hash, hash_of_node}
use Rattle.trie_node.specs.Forms.{IsPairNode, IsTripleNode, IsTripleEdge, AreSlices}
use Rattle.trie_context.specs.declared.tables.Tables.{Tables}
use Rattle.trie_context.specs.Rows.{row_of, node_set, row_set, set_of}
use Rattle.trie_context.specs.Kept.{AreKept}
use Rattle.trie_context.specs.FitEdges.{FitsAt, StandsAt}
use Rattle.trie_context.specs.EdgeLaws.{filled_there}
use Rattle.trie_change.specs.Rooms.{FitsSome, AllFit, AreSlicesAt, row_set_at, IsRowThere, first_set}

-- the empty map stands for the slices of no triple
pub empty_slices : (t : Tables) (d i : ℕ) (m : Edges) → m ≡ map.empty → AreSlicesAt t d (empty nat_cmp) i m
empty_slices t d i m is k = subst (StandsAt t d _) (sym (ap (λ n. map.get n k) is ∙ map.get-empty nat_cmp k)) (slice-empty total exact i k)

-- a node of depth three has a map for each position, with the slices, and its own size and hash
module _ (hash : IdSet → ℕ) (low : ℕ → IdSet) where
  node_slices : (node : Node) → IsTripleNode hash low node → (i : ℕ) → i < 3 → (m : Edges) → map_at node i ≡ Some m → AreSlices (IsTripleEdge low) low (triple_set_of low node) i m
  node_slices (Single p) f i h m at = absurd f
  node_slices (Full s h a b c) f zero lt m at = let is : a ≡ m = cc in subst (AreSlices (IsTripleEdge low) low (triple_set_of low (Full s h a b c)) 0) is f.first
  node_slices (Full s h a b c) f (suc zero) lt m at = let is : b ≡ m = cc in subst (AreSlices (IsTripleEdge low) low (triple_set_of low (Full s h a b c)) 1) is f.second
  node_slices (Full s h a b c) f (suc (suc zero)) lt m at = let is : c ≡ m = cc in subst (AreSlices (IsTripleEdge low) low (triple_set_of low (Full s h a b c)) 2) is f.third
  node_slices (Full s h a b c) f (suc (suc (suc i))) lt m at = absurd (omega arith)

  node_maps : (node : Node) → IsTripleNode hash low node → (i : ℕ) → map_at node i ≡ None → ⊥
  node_maps (Single p) f i at = f
  node_maps (Full s h a b c) f zero at = cc
  node_maps (Full s h a b c) f (suc zero) at = cc
  node_maps (Full s h a b c) f (suc (suc i)) at = cc

  node_size : (node : Node) → IsTripleNode hash low node → size_of node ≡ set.len (triple_set_of low node)
  node_size (Single p) f = absurd f
  node_size (Full s h a b c) f = f.told.sized

node_hash : (mixed : ℕ → ℕ → ℕ → ℕ → ℕ) (low : ℕ → IdSet) (node : Node) → IsTripleNode (set_hash mixed 3) low node → hash_of_node mixed node ≡ set_hash mixed 3 (triple_set_of low node)
node_hash mixed low (Single p) f = absurd f
node_hash mixed low (Full s h a b c) f = f.told.hashed

-- the row that was read
pub row_read : (o : Option (Row Node)) (n : Node) → IsSome o → IfSome o (λ w. w.node ≡ n) → (row : Row Node) × (o ≡ Some row) × (row.node ≡ n)
row_read None n there reads = absurd (let f : false ≡ true = there in cc)
row_read (Some row) n there reads = (row, refl, reads)

-- what the node of the row of a set of triples says
module _ {mixed : ℕ → ℕ → ℕ → ℕ → ℕ} {t u : Tables} (kept : AreKept mixed t) (same : u ≡ t) (o : Option ℕ) (there : IsRowThere t o) (r : ℕ) (is : o ≡ Some r) (n : Node) (reads : IfSome (row_of u 3 r) (λ w. w.node ≡ n)) where
  read : (row : Row Node) × (row_of t 3 r ≡ Some row) × (row.node ≡ n)
  read = row_read (row_of t 3 r) n (subst (IsRowThere t) is there) (subst (λ v. IfSome (row_of v 3 r) (λ w. w.node ≡ n)) same reads)

  formed : IsTripleNode (set_hash mixed 3) (set_of t 2) n
  formed = subst (IsTripleNode (set_hash mixed 3) (set_of t 2)) read.2 ((kept 2).formed r read.0 read.1)

  row_is : triple_set_of (set_of t 2) n ≡ row_set_at t o
  row_is = ap (triple_set_of (set_of t 2)) (sym read.2) ∙ sym (ap (row_set (node_set 3 (set_of t 2))) read.1) ∙ ap (row_set_at t) (sym is)

  pub row_slices : (i : ℕ) → i < 3 → (m : Edges) → map_at n i ≡ Some m → AreSlicesAt t 2 (row_set_at t o) i m
  row_slices i lt m at = subst (λ H. AreSlicesAt t 2 H i m) row_is (node_slices (set_hash mixed 3) (set_of t 2) n formed i lt m at)

  pub row_maps : (i : ℕ) → map_at n i ≡ None → ⊥
  row_maps i at = node_maps (set_hash mixed 3) (set_of t 2) n formed i at

  pub row_size : size_of n ≡ set.len (row_set_at t o)
  row_size = node_size (set_hash mixed 3) (set_of t 2) n formed ∙ ap set.len row_is

  pub row_hash : hash_of_node mixed n ≡ set_hash mixed 3 (row_set_at t o)
  row_hash = node_hash mixed (set_of t 2) n formed ∙ ap (set_hash mixed 3) row_is

pub no_triples : set.len (empty nat_cmp) ≡ 0
no_triples = set.len-empty (slice_cmp nat_cmp)

pub no_hash : (mixed : ℕ → ℕ → ℕ → ℕ → ℕ) → set_hash mixed 3 (empty nat_cmp) ≡ 0
no_hash mixed = xor_over-empty (lists_total total) (slice_cmp-IsAntisymmetric exact) (tuple_mix mixed 3)

-- a map that stands for one triple has an edge
pub some_edge : (t : Tables) (m : Edges) → set.len (first_set t 2 m) ≡ 1 → ((k : ℕ) → map.get m k ≡ None) → ⊥
some_edge t m lone none =
    let is : m ≡ map.empty = same_maps total exact m map.empty (λ k. none k ∙ sym (map.get-empty nat_cmp k)) in
    let n = ap (λ n. set.len (first_set t 2 n)) is in
    let z = ap set.len (union_over-empty total exact (edge_set (set_of t 2))) in
    let e = set.len-empty (slice_cmp nat_cmp) in
    omega arith

module _ {mixed : ℕ → ℕ → ℕ → ℕ → ℕ} {t : Tables} (kept : AreKept mixed t) where
  -- a map that stands for one triple
  module _ (m : Edges) (fits : AllFit t 2 m) (lone : set.len (first_set t 2 m) ≡ 1) where
    module _ (k : ℕ) (e : Edge) (at : map.get m k ≡ Some e) where
      fit : FitsAt t 2 e
      fit = subst (FitsSome t 2) at (fits k)

      module _ (r : ℕ) (is : e ≡ ToRow r) where
        -- the row that an edge leads to is there, and stands for one pair
        pub pair_there : IsSome (row_of t 2 r)
        pair_there = filled_there t 2 r (subst (FitsAt t 2) is fit)

        few : set.len (set_of t 2 r) ≤ 1
        few =
            let whole = len-union_over total exact (edge_set (set_of t 2)) m in
            let part = sum_over-part total exact m (λ _ e. set.len (edge_set (set_of t 2) e)) k (ToRow r) (at ∙ ap Some is) in
            omega arith

        module _ (n : Node) (reads : IfSome (row_of t 2 r) (λ w. w.node ≡ n)) where
          read_pair : (row : Row Node) × (row_of t 2 r ≡ Some row) × (row.node ≡ n)
          read_pair = row_read (row_of t 2 r) n pair_there reads

          pair_is : set_of t 2 r ≡ pair_set_of (set_of t 1) n
          pair_is = ap (row_set (node_set 2 (set_of t 1))) read_pair.1 ∙ ap (pair_set_of (set_of t 1)) read_pair.2

          pub no_full : (s h : ℕ) (a b c : Edges) → n ≡ Full s h a b c → ⊥
          no_full s h a b c full =
              let f : IsPairNode (set_hash mixed 2) (set_of t 1) (Full s h a b c) = subst (IsPairNode (set_hash mixed 2) (set_of t 1)) (read_pair.2 ∙ full) ((kept 1).formed r read_pair.0 read_pair.1) in
              let large = f.told.large in
              omega (arith, few, ap set.len (pair_is ∙ ap (pair_set_of (set_of t 1)) full))

          pub lone_is : (p : Pair) → n ≡ Single p → first_set t 2 m ≡ single nat_cmp (k ∷ pair_tuple p)
          lone_is p one = one_is total exact (first_set t 2 m) (k ∷ pair_tuple p) lone
              (has-union_over total exact m (edge_set (set_of t 2)) k (pair_tuple p)
              ∙ ap (λ o. has_under (edge_set (set_of t 2)) o (pair_tuple p)) (at ∙ ap Some is)
              ∙ ap (λ S. has S (pair_tuple p)) (pair_is ∙ ap (pair_set_of (set_of t 1)) one)
              ∙ has-single total exact (pair_tuple p) (pair_tuple p)
              ∙ tied-itself (lists_total total) (pair_tuple p))
