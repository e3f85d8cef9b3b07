-- Words for what the calls of a change answer.
use Rattle.std.specs.Prelude.{◌≡◌, ℕ, ◌+◌, ◌≤◌, List, Option}
use Rattle.std.specs.Ordering.{nat_cmp}
use Rattle.std.specs.FinMap as map
use Rattle.std.specs.FinSet as set
use Rattle.hypertrie_model.specs.IdSets.{IdSet}
use Rattle.hypertrie_model.specs.Sets.{single}
use Rattle.hypertrie_model.specs.Slices.{slice}
use Rattle.trie_depth.specs.declared.id.Id.{Id}
use Rattle.trie_depth.specs.declared.id.Pair.{Pair}
use Rattle.trie_depth.specs.declared.id.Trip.{Trip}
use Rattle.trie_depth.specs.Tuples.{pair_tuple}
use Rattle.edge_map.specs.declared.edge.Edge.{Edge}
use Rattle.edge_map.specs.Edges.{Edges, changed}
use Rattle.trie_node.specs.declared.node.Node.{Node}
use Rattle.trie_node.specs.declared.node.Node.TheVariants.{Single}
use Rattle.trie_context.specs.declared.tables.Tables.{Tables}
use Rattle.trie_context.specs.FitEdges.{StandsAt}
use Rattle.trie_change.specs.declared.change.Change.{Change}
use Rattle.trie_change.specs.After.{triples_of, pairs_of, pairs_after, runs_copied, three_maps}
use Rattle.trie_change.specs.Nodes.{ArePairParts, IsPairNodeOf}
use Rattle.trie_change.specs.Rooms.{AreChanged}

-- the slices of the first set at its first position are those of the other one at a position
abbrev pub BeginsWith : IdSet → IdSet → ℕ → Type 0
BeginsWith G H position = (k : ℕ) → slice nat_cmp G 0 k ≡ slice nat_cmp H position k

-- the changes make of the edges what the pairs, and what the triples, ask for
abbrev pub ArePairsChanged : Change → Tables → Tables → Edges → List Pair → List (Id × Option Edge) → Type 0
ArePairsChanged change t u old pairs changes = AreChanged change t u 1 old (pairs_of pairs) (changed old changes)

abbrev pub AreTriplesChanged : Change → Tables → Tables → Edges → List Trip → List (Id × Option Edge) → Type 0
AreTriplesChanged change t u old triples changes = AreChanged change t u 2 old (triples_of triples) (changed old changes)

-- the node is that of any set with this size, this hash and these edges
abbrev pub MakesPairs : (ℕ → ℕ → ℕ → ℕ → ℕ) → ℕ → ℕ → Edges → Edges → Node → Type 0
MakesPairs mixed size hash first second node = (low : ℕ → IdSet) (H : IdSet) → 1 ≤ set.len H → ArePairParts mixed low H size hash first second → IsPairNodeOf mixed low H first second node

-- the node is that of the one pair that is there after the change
abbrev pub IsLonePair : Change → Option Edge → List Trip → Node → Type 0
IsLonePair change old run node = (p : Pair) × (node ≡ Single p) × ((t : Tables) → single nat_cmp (pair_tuple p) ≡ pairs_after change t old run)

-- the edge stands for the pair of the node
abbrev pub StandsForPair : Tables → Node → Option Edge → Type 0
StandsForPair t node e = (p : Pair) → node ≡ Single p → StandsAt t 2 (single nat_cmp (pair_tuple p)) e

-- the most edges that a map of triples retains where it is changed
abbrev pub map_retains : Tables → Edges → List Trip → Edges → ℕ
map_retains t old triples new = runs_copied t old triples + map.len new

-- the holds of the edges of three maps
abbrev pub in_three : Edges × Edges × Edges → ℕ → ℕ → ℕ
in_three m = three_maps m.0 m.1 m.2
