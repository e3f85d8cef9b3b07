-- What a change makes of the set that an edge, a row or a root stands for.
use Rattle.std.specs.Prelude.{ℕ, ◌+◌, ◌*◌, ◌^◌, List, Option, length}
use Rattle.std.specs.Ordering.{nat_cmp}
use Rattle.std.specs.FinSet as set
use Rattle.hypertrie_model.specs.Changes.{after}
use Rattle.hypertrie_model.specs.IdSets.{IdSet}
use Rattle.hypertrie_model.specs.Sets.{single}
use Rattle.trie_depth.specs.declared.id.Id.{Id}
use Rattle.trie_depth.specs.declared.id.Pair.{Pair}
use Rattle.trie_depth.specs.declared.id.Trip.{Trip}
use Rattle.trie_depth.specs.Tuples.{pair_tuple, trip_tuple}
use Rattle.edge_map.specs.declared.edge.Edge.{Edge}
use Rattle.edge_map.specs.Edges.{Edges}
use Rattle.trie_node.specs.Sets.{edges_in}
use Rattle.trie_context.specs.declared.tables.Tables.{Tables}
use Rattle.trie_context.specs.declared.root.Root.{Root}
use Rattle.trie_context.specs.Holds.{at_depth}
use Rattle.trie_context.specs.Roots.{root_set}
use Rattle.trie_context.specs.FitEdges.{set_at, option_leads}
use Rattle.trie_change.specs.declared.change.Change.{Change}
use Rattle.trie_change.specs.Batches.{set_of_entries, pair_rest, trip_rest}
use Rattle.trie_change.specs.Changes.{grows}
use Rattle.trie_change.specs.Rooms.{row_set_at, changes_lead, first_set}

-- the triples of a batch
abbrev pub triples_of : List Trip → IdSet
triples_of batch = set_of_entries trip_tuple batch

-- the keys of an edge, changed by those behind the first of each pair
abbrev pub keys_after : Change → Tables → Option Edge → List Pair → IdSet
keys_after change t old run = after (grows change) (set_at t 1 old) (set_of_entries pair_rest run)

-- the pairs of an edge, changed by what is behind the first key of each triple
abbrev pub pairs_after : Change → Tables → Option Edge → List Trip → IdSet
pairs_after change t old run = after (grows change) (set_at t 2 old) (set_of_entries trip_rest run)

-- the triples of a row, changed by a batch
abbrev pub row_after : Change → Tables → Option ℕ → List Trip → IdSet
row_after change t old batch = after (grows change) (row_set_at t old) (triples_of batch)

-- one triple, changed by a batch
abbrev pub one_after : Change → Trip → List Trip → IdSet
one_after change triple batch = after (grows change) (single nat_cmp (trip_tuple triple)) (triples_of batch)

-- the triples of a graph, changed by a batch
abbrev pub graph_after : Change → Tables → Root → List Trip → IdSet
graph_after change t root batch = after (grows change) (root_set t root) (triples_of batch)

-- the pairs of a list
abbrev pub pairs_of : List Pair → IdSet
pairs_of pairs = set_of_entries pair_tuple pairs

-- the hold of an edge into depth d, of each edge of a map, and of each edge of changes
abbrev pub edge_hold : ℕ → Option Edge → ℕ → ℕ → ℕ
edge_hold d o = at_depth d (option_leads o)

abbrev pub map_hold : ℕ → Edges → ℕ → ℕ → ℕ
map_hold d m = at_depth d (edges_in m)

abbrev pub changes_hold : ℕ → List (Id × Option Edge) → ℕ → ℕ → ℕ
changes_hold d cs = at_depth d (changes_lead cs)

-- how much counts rise at most where the edges at a position of pairs are made anew, a set of pairs, the edges at a
-- position of triples, those at all three, a graph, and a graph of one triple more
abbrev pub keys_room : List Pair → ℕ
keys_room pairs = length pairs + 2 ^ 32

abbrev pub rest_room : List Trip → ℕ
rest_room run = length run + 2 ^ 32

abbrev pub run_room : List Trip → ℕ
run_room run = 2 ^ 34 * length run

abbrev pub map_room : List Trip → ℕ
map_room batch = 2 ^ 34 * length batch + 2 ^ 32

abbrev pub maps_room : List Trip → ℕ
maps_room batch = 3 * (2 ^ 34 * length batch + 2 ^ 32)

abbrev pub graph_room : List Trip → ℕ
graph_room batch = 3 * (2 ^ 34 * length batch + 2 ^ 32) + 1

abbrev pub one_room : List Trip → ℕ
one_room batch = 3 * (2 ^ 34 * (length batch + 1) + 2 ^ 32) + 1

-- how many edges are retained at most where the pairs behind the edges of a map are copied, those of each run once
abbrev pub runs_copied : Tables → Edges → List Trip → ℕ
runs_copied t old triples = 2 * (set.len (first_set t 2 old) + length triples)

-- the edges of three maps of a node of depth three, and their holds
abbrev pub three_edges : Edges → Edges → Edges → ℕ → ℕ
three_edges a b c r = edges_in a r + (edges_in b r + edges_in c r)

abbrev pub three_maps : Edges → Edges → Edges → ℕ → ℕ → ℕ
three_maps a b c = at_depth 2 (λ r. edges_in a r + (edges_in b r + edges_in c r))

-- the triples of a graph with a batch, and without it
abbrev pub with_batch : Tables → Root → List Trip → IdSet
with_batch t root batch = set.union (root_set t root) (triples_of batch)

abbrev pub without_batch : Tables → Root → List Trip → IdSet
without_batch t root batch = set.difference (root_set t root) (triples_of batch)
