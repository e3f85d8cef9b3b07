-- What edges and nodes stand for, over `low`, which gives the set of each row one depth below; sizes, hashes, and counts of edges.
use Rattle.std.specs.Prelude.{◌≡◌, ℕ, zero, suc, ◌+◌, Bool, cond, nat_eq, List, [], ◌∷◌, slice_index, Option, None, Some}
use Rattle.std.specs.Ordering.{nat_cmp}
use Rattle.std.specs.FinMap as map
use Rattle.trie_depth.specs.declared.id.Pair.{Pair}
use Rattle.trie_depth.specs.Tuples.{pair_tuple}
use Rattle.edge_map.specs.declared.edge.Edge.{Edge}
use Rattle.edge_map.specs.declared.edge.Edge.TheVariants.{Key, Node as ToRow}
use Rattle.edge_map.specs.Edges.{Edges}
use Rattle.hypertrie_model.specs.IdSets.{IdSet}
use Rattle.hypertrie_model.specs.Sets.{empty, single}
use Rattle.hypertrie_model.specs.Folds.{sum_over, xor_over}
use Rattle.hypertrie_model.specs.Unions.{union_over}
use Rattle.trie_node.specs.declared.node.Node.{Node}
use Rattle.trie_node.specs.declared.node.Node.TheVariants.{Single, Full}

-- the set that an edge stands for: its one key, or the set of the row that it leads to
abbrev pub edge_set : (ℕ → IdSet) → Edge → IdSet
edge_set low (Key x) = single nat_cmp (x.0 ∷ [])
edge_set low (ToRow n) = low n

-- the keys of the first map
abbrev pub key_set_of : Node → IdSet
key_set_of (Single p) = empty nat_cmp
key_set_of (Full s h a b c) = union_over a (λ _. single nat_cmp [])

-- the pair, or each key of the first map before each tuple of the set that its edge stands for
abbrev pub set_over : (ℕ → IdSet) → Node → IdSet
set_over low (Single p) = single nat_cmp (pair_tuple p)
set_over low (Full s h a b c) = union_over a (edge_set low)

-- the pairs of a node of depth two, over the key sets of the rows of depth one
abbrev pub pair_set_of : (ℕ → IdSet) → Node → IdSet
pair_set_of low node = set_over low node

-- the triples of a node of depth three, over the sets of pairs of the rows of depth two
abbrev pub triple_set_of : (ℕ → IdSet) → Node → IdSet
triple_set_of low node = set_over low node

-- the edges of a position
abbrev pub map_at : Node → ℕ → Option Edges
map_at (Single p) pos = None
map_at (Full s h a b c) zero = Some a
map_at (Full s h a b c) (suc zero) = Some b
map_at (Full s h a b c) (suc (suc pos)) = Some c

abbrev pub size_of : Node → ℕ
size_of (Single p) = 1
size_of (Full s h a b c) = s

-- the mix of a tuple, positions past its end as 0
abbrev pub tuple_mix : (ℕ → ℕ → ℕ → ℕ → ℕ) → ℕ → List ℕ → ℕ
tuple_mix mixed depth t = mixed depth (slice_index t 0) (slice_index t 1) (slice_index t 2)

-- the exclusive or of the mixes of the tuples of a set
abbrev pub set_hash : (ℕ → ℕ → ℕ → ℕ → ℕ) → ℕ → IdSet → ℕ
set_hash mixed depth H = xor_over H (tuple_mix mixed depth)

-- the hash that a node carries, and that of its pair
abbrev pub hash_of_node : (ℕ → ℕ → ℕ → ℕ → ℕ) → Node → ℕ
hash_of_node mixed (Single p) = tuple_mix mixed 2 (pair_tuple p)
hash_of_node mixed (Full s h a b c) = h

-- 1 where the edge leads to the row
abbrev pub leads : Edge → ℕ → ℕ
leads (Key x) r = 0
leads (ToRow n) r = cond (nat_eq n r) 1 0

-- how many edges of the map lead to the row
abbrev pub edges_in : Edges → ℕ → ℕ
edges_in m r = sum_over m (λ _ e. leads e r)

-- how many edges of the node lead to the row
abbrev pub edges_of : Node → ℕ → ℕ
edges_of (Single p) r = 0
edges_of (Full s h a b c) r = edges_in a r + (edges_in b r + edges_in c r)
