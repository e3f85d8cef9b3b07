-- How many edges a change of a store retains.
use Rattle.std.specs.Prelude.{ℕ, ◌+◌, ◌≤◌}
use Rattle.std.specs.FinSet as set
use Rattle.hypertrie_model.specs.IdSets.{IdSet}
use Rattle.trie_update.specs.Retained.{most_retained}
use Rattle.graph_store.specs.StoreState.{StoreState, triples_of}
use Rattle.graph_store.specs.Staging.{Staging}

-- the most edges that the staged triples retain where they are put in, and marked ones where they are taken out
abbrev pub insert_retains : StoreState → Staging → ℕ
insert_retains s b = most_retained (triples_of s) (set.union (triples_of s) b.triples) (set.len b.triples)

abbrev pub delete_retains : StoreState → IdSet → ℕ
delete_retains s marked = most_retained (triples_of s) (set.difference (triples_of s) marked) (set.len marked)

-- triples that are put into a graph retain no more from one count to another
abbrev pub PutRetains : IdSet → IdSet → ℕ → ℕ → Type 0
PutRetains G trips before now = now ≤ before + most_retained G (set.union G trips) (set.len trips)
