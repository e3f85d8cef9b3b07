-- What a batch may change, and what its change makes of a graph.
use Rattle.std.specs.Prelude.{◌≡◌, ℕ, ◌≤◌, ◌^◌, List}
use Rattle.std.specs.FinSet as set
use Rattle.hypertrie_model.specs.Changes.{IsChange}
use Rattle.trie_depth.specs.declared.id.Trip.{Trip}
use Rattle.trie_depth.specs.Tuples.{trip_tuple}
use Rattle.trie_context.specs.declared.root.Root.{Root}
use Rattle.trie_context.specs.declared.tables.Tables.{Tables}
use Rattle.trie_context.specs.Holds.{CountsRiseBy}
use Rattle.trie_context.specs.Kept.{AreMoved}
use Rattle.trie_context.specs.Roots.{root_set, root_hold, IsHeld}
use Rattle.change_log.specs.Log.{reserved_in}
use Rattle.change_log.specs.Places.{ArePlacesBeside}
use Rattle.trie_change.specs.declared.change.Change.{Change}
use Rattle.trie_change.specs.After.{triples_of, graph_after, with_batch}
use Rattle.trie_change.specs.Batches.{IsOnce}
use Rattle.trie_change.specs.Changes.{grows}
use Rattle.trie_change.specs.Rooms.{CountsUpTo, HeldStay}
use Rattle.trie_update.specs.declared.kept.Undo.{Undo}
use Rattle.trie_update.specs.Opened.{LogsChange}

-- each triple of the batch stands there once; the graph has none of them if it is to grow, and all if it is to shrink
pub record MayChangeGraph (change : Change) (t : Tables) (root : Root) (batch : List Trip) : Type 0 where
  pub held : IsHeld t root
  pub once : IsOnce trip_tuple batch
  pub fits : IsChange (grows change) (root_set t root) (triples_of batch)
  pub counts : CountsUpTo t (2 ^ 96)
  pub size : set.len (with_batch t root batch) ≤ 536870912

-- the new root stands for the changed graph, and the old one's hold became its own; what else is held stays as it was
pub record IsChanged (change : Change) (mixed : ℕ → ℕ → ℕ → ℕ → ℕ) (t u : Tables) (old new : Root) (batch : List Trip) : Type 0 where
  pub set : root_set u new ≡ graph_after change t old batch
  pub moved : AreMoved mixed t u (root_hold new) (root_hold old)
  pub counts : CountsRiseBy t u (λ _ _. 2 ^ 65)
  pub stay : HeldStay t u (root_hold old)

-- the new root stands for the changed graph, and the log keeps what it replaced
pub record IsOpen (change : Change) (mixed : ℕ → ℕ → ℕ → ℕ → ℕ) (t u : Tables) (old new : Root) (batch : List Trip) (undo : Undo) : Type 0 where
  pub set : root_set u new ≡ graph_after change t old batch
  pub logged : LogsChange mixed t u old new undo.log.steps
  pub places : ArePlacesBeside undo.log.steps (reserved_in t) (reserved_in u)
  pub was : undo.was ≡ old

-- nothing has changed
pub record IsAsBefore (t u : Tables) (old new : Root) : Type 0 where
  pub tables : u ≡ t
  pub root : new ≡ old
