-- A tuple that is put into a set whose slices at its elements no other edge leads to, or that has no such slices.
use Rattle.std.specs.Prelude.{◌≡◌, ℕ, true, false, List}
use Rattle.std.specs.Ordering.{nat_cmp}
use Rattle.std.specs.FinSet as set
use Rattle.hypertrie_model.specs.IdSets.{IdSet}
use Rattle.hypertrie_model.specs.Sets.{single}
use Rattle.hypertrie_model.specs.Slices.{is_at, keys, slice}
use Rattle.trie_change.specs.Extra.{shared_edges}

-- nothing of the slice at an element of the tuple is shared, before the tuple is put in or after
abbrev pub IsAlone : IdSet → List ℕ → Type 0
IsAlone G t = (i k : ℕ) → is_at nat_cmp i k t ≡ true → shared_edges G (set.union G (single nat_cmp t)) (slice nat_cmp G i k) ≡ 0

-- no element of the tuple stands at its position in another tuple
abbrev pub IsApart : IdSet → List ℕ → Type 0
IsApart G t = (i k : ℕ) → is_at nat_cmp i k t ≡ true → set.contains (keys nat_cmp G i) k ≡ false
