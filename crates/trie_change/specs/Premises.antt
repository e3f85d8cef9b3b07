-- When an edge, a map of edges or a row may be changed.
use Rattle.std.specs.Prelude.{ℕ, ◌<◌, ◌^◌, List, Option}
use Rattle.std.specs.FinSet as set
use Rattle.hypertrie_model.specs.Changes.{IsChange}
use Rattle.trie_depth.specs.declared.id.Trip.{Trip}
use Rattle.trie_depth.specs.Tuples.{trip_tuple}
use Rattle.edge_map.specs.declared.edge.Edge.{Edge}
use Rattle.edge_map.specs.Edges.{Edges}
use Rattle.trie_context.specs.declared.tables.Tables.{Tables}
use Rattle.trie_context.specs.FitEdges.{set_at}
use Rattle.trie_change.specs.declared.change.Change.{Change}
use Rattle.trie_change.specs.After.{triples_of, row_after}
use Rattle.trie_change.specs.Batches.{set_of_entries, AreInOrder, IsOnce}
use Rattle.trie_change.specs.Changes.{grows}
use Rattle.trie_change.specs.Rooms.{FitsSome, AllFit, AreChanges, IsRowThere, row_set_at}

-- an edge into depth d, by a run of entries in order: all of what is left of them is new, or all of it is there
pub record MayChangeEdge {E : Type 0} (how : Change) (t : Tables) (d : ℕ) (rest : E → List ℕ) (old : Option Edge) (run : List E) : Type 0 where
  pub fits : FitsSome t d old
  pub order : AreInOrder rest run
  pub change : IsChange (grows how) (set_at t d old) (set_of_entries rest run)

-- a map of edges into depth d, by entries in order
pub record MayChangeMap {E : Type 0} (how : Change) (t : Tables) (d : ℕ) (tuple : E → List ℕ) (old : Edges) (entries : List E) : Type 0 where
  pub fits : AllFit t d old
  pub order : AreInOrder tuple entries
  pub change : AreChanges how t d old (set_of_entries tuple entries)

-- the triples of a row, by a batch in which each is once
pub record MayChangeRow (how : Change) (t : Tables) (old : Option ℕ) (batch : List Trip) : Type 0 where
  pub there : IsRowThere t old
  pub once : IsOnce trip_tuple batch
  pub change : IsChange (grows how) (row_set_at t old) (triples_of batch)
  pub size : set.len (row_after how t old batch) < 2 ^ 64
