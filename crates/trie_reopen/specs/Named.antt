-- What the calls over a log answer: old edges were in hand, and new ones are; what they retain.
use Rattle.std.specs.Prelude.{◌≡◌, ℕ, ◌+◌, ◌*◌, ◌-◌, ◌≤◌, List, Option, None, Some, length}
use Rattle.hypertrie_model.specs.IdSets.{IdSet}
use Rattle.trie_depth.specs.declared.id.Id.{Id}
use Rattle.trie_depth.specs.declared.id.Pair.{Pair}
use Rattle.trie_depth.specs.declared.id.Trip.{Trip}
use Rattle.edge_map.specs.declared.edge.Edge.{Edge}
use Rattle.edge_map.specs.declared.edge.Edge.TheVariants.{Node as ToRow}
use Rattle.edge_map.specs.Edges.{Edges, changed}
use Rattle.trie_node.specs.declared.node.Node.{Node}
use Rattle.trie_node.specs.Sets.{edges_in, edges_of}
use Rattle.trie_context.specs.declared.root.Root.{Root}
use Rattle.trie_context.specs.declared.tables.Tables.{Tables}
use Rattle.trie_context.specs.FitEdges.{set_at}
use Rattle.trie_context.specs.Holds.{holds_of, one_at, at_depth}
use Rattle.trie_context.specs.Roots.{root_hold}
use Rattle.trie_context.specs.Rows.{node_of, set_of}
use Rattle.trie_context.specs.Shape.{OnlyHeld}
use Rattle.change_log.specs.Log.{edge_hold}
use Rattle.change_log.specs.Logged.{IsLogged}
use Rattle.change_log.specs.Seen.{Seen}
use Rattle.trie_change.specs.declared.change.Change.{Change}
use Rattle.trie_change.specs.After.{map_hold, graph_room, row_after, run_room}
use Rattle.trie_change.specs.Extra.{extra, extra_at, shared_edges}
use Rattle.trie_reopen.specs.Shared.{AreShared, AreTurned}

module _ (mixed : ℕ → ℕ → ℕ → ℕ → ℕ) (t u : Tables) (log later : Seen) where
  -- an edge to a row of a depth for another
  abbrev pub ReplacesEdge : ℕ → Option Edge → ℕ → Option Edge → Type 0
  ReplacesEdge d old most new = IsLogged mixed t u log.steps later.steps (edge_hold d new) (edge_hold d old) most

  -- an edge for the hold of a row of pairs
  abbrev pub ReplacesRow : ℕ → List Trip → Option Edge → Type 0
  ReplacesRow row run new = IsLogged mixed t u log.steps later.steps (edge_hold 2 new) (at_depth 2 (one_at row)) (run_room run)

  -- a root for the hold of a row of triples
  abbrev pub ReplacesRoot : ℕ → List Trip → Root → Type 0
  ReplacesRoot row batch new = IsLogged mixed t u log.steps later.steps (root_hold new) (at_depth 3 (one_at row)) (graph_room batch)

  -- a map of edges for another
  abbrev pub ReplacesMap : ℕ → Edges → ℕ → Edges → Type 0
  ReplacesMap d old most new = IsLogged mixed t u log.steps later.steps (map_hold d new) (map_hold d old) most

  -- that of pairs, and that of triples
  abbrev pub ReplacesPairs : Edges → List Pair → Edges → Type 0
  ReplacesPairs old pairs new = ReplacesMap 1 old (length pairs) new

  abbrev pub ReplacesTriples : Edges → List Trip → Edges → Type 0
  ReplacesTriples old triples new = ReplacesMap 2 old (run_room triples) new

  -- the edges of a map with changes made for its own, as pairs ask for them, and as triples do
  abbrev pub LogPairs : Edges → List Pair → List (Id × Option Edge) → Type 0
  LogPairs old pairs changes = ReplacesMap 1 old (length pairs) (changed old changes)

  abbrev pub LogRows : Edges → List Trip → List (Id × Option Edge) → Type 0
  LogRows old triples changes = ReplacesMap 2 old (run_room triples) (changed old changes)

  -- an edge, or a root, for the edges of the node that it stands for
  abbrev pub StoresPairs : Node → Option Edge → Type 0
  StoresPairs node e = IsLogged mixed t u log.steps later.steps (edge_hold 2 e) (at_depth 1 (edges_of node)) 1

  abbrev pub StoresTriples : Node → Root → Type 0
  StoresTriples node root = IsLogged mixed t u log.steps later.steps (root_hold root) (at_depth 2 (edges_of node)) 1

  -- the edges of a row of pairs, or of triples, for its hold
  abbrev pub OpensPairs : ℕ → Type 0
  OpensPairs row = (n : Node) × (node_of t 2 row ≡ Some n) × IsLogged mixed t u log.steps later.steps (at_depth 1 (edges_of n)) (at_depth 2 (one_at row)) 0

  abbrev pub OpensTriples : ℕ → Type 0
  OpensTriples row = (n : Node) × (node_of t 3 row ≡ Some n) × IsLogged mixed t u log.steps later.steps (at_depth 2 (edges_of n)) (at_depth 3 (one_at row)) 0

-- no edge for the hold of a row of pairs, which stays as it was
abbrev pub LeavesRow : (ℕ → ℕ → ℕ → ℕ → ℕ) → Tables → Seen → Seen → ℕ → Type 0
LeavesRow mixed t log later row = ReplacesEdge mixed t t log later 2 (Some (ToRow row)) 0 None

-- the holds fell by that of the row of triples, and rose by those of its edges
abbrev pub HoldsAreOpened : Tables → Tables → ℕ → Type 0
HoldsAreOpened t u row = (n : Node) → node_of t 3 row ≡ Some n → (d r : ℕ) → holds_of u d r + at_depth 3 (one_at row) d r ≡ holds_of t d r + at_depth 2 (edges_of n) d r

-- two maps have the edges of a row of pairs, and three those of a row of triples
abbrev pub HavePairEdges : Tables → ℕ → Edges × Edges → Type 0
HavePairEdges t row m = (n : Node) → node_of t 2 row ≡ Some n → (r : ℕ) → edges_in m.0 r + edges_in m.1 r ≡ edges_of n r

abbrev pub HaveTripleEdges : Tables → ℕ → Edges × Edges × Edges → Type 0
HaveTripleEdges t row m = (n : Node) → node_of t 3 row ≡ Some n → (r : ℕ) → edges_in m.0 r + (edges_in m.1 r + edges_in m.2 r) ≡ edges_of n r

-- rows are shared as they were, while a map of the graph is changed to that of another
abbrev pub StayShared : Change → Tables → Tables → Edges → List Trip → Type 0
StayShared change t u old triples = (G H : IdSet) (i : ℕ) → AreTurned change G H i t old triples → AreShared G H t → AreShared G H u

-- what is retained from one count to another: for the pairs of an edge, for a map, and for a graph
abbrev pub RunRetains : Tables → Option Edge → List Trip → ℕ → ℕ → Type 0
RunRetains t old run before now = (G H : IdSet) → AreShared G H t → now ≤ before + (2 * length run + shared_edges G H (set_at t 2 old))

abbrev pub MapRetains : Change → Tables → Edges → List Trip → ℕ → ℕ → Type 0
MapRetains change t old triples before now = (G H : IdSet) (i : ℕ) → AreTurned change G H i t old triples → AreShared G H t → now ≤ before + (2 * length triples + extra_at G H i)

abbrev pub GraphRetains : Change → Tables → ℕ → List Trip → ℕ → ℕ → Type 0
GraphRetains change t row batch before now = OnlyHeld t row → now ≤ before + (6 * length batch + extra (set_of t 3 row) (row_after change t (Some row) batch))
