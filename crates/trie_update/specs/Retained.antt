-- How many edges a batch retains.
use Rattle.std.specs.Prelude.{ℕ, ◌+◌, ◌*◌, ◌≤◌, List, length}
use Rattle.std.specs.FinSet as set
use Rattle.hypertrie_model.specs.IdSets.{IdSet}
use Rattle.trie_depth.specs.declared.id.Trip.{Trip}
use Rattle.trie_context.specs.declared.root.Root.{Root}
use Rattle.trie_context.specs.declared.tables.Tables.{Tables}
use Rattle.trie_context.specs.RootShape.{OnlyRootHeld}
use Rattle.trie_context.specs.Roots.{root_set}
use Rattle.trie_change.specs.declared.change.Change.{Change}
use Rattle.trie_change.specs.After.{graph_after}
use Rattle.trie_change.specs.Extra.{extra}

-- the most edges that a batch of b triples retains where it makes H of G
abbrev pub most_retained : IdSet → IdSet → ℕ → ℕ
most_retained G H b = 32 * (b + 1) + extra G H

-- that of a batch that changes a graph
abbrev pub change_retains : Change → Tables → Root → List Trip → ℕ
change_retains change t root batch = most_retained (root_set t root) (graph_after change t root batch) (length batch)

-- where only the root is held, such a batch retains no more from one count to another
abbrev pub ChangeRetains : Change → Tables → Root → List Trip → ℕ → ℕ → Type 0
ChangeRetains change t root batch before now = OnlyRootHeld t root → now ≤ before + change_retains change t root batch

-- where only the root is held, it has no more triples than twice the batch and one
abbrev pub IsSmall : Tables → Root → ℕ → Type 0
IsSmall t root batch = OnlyRootHeld t root → set.len (root_set t root) ≤ 2 * batch + 1
