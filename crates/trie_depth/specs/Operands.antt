-- Which keys a set of tuples admits.
use Rattle.std.specs.Prelude.{ℕ, ◌^◌, ◌<◌, ◌≢◌, List, All}
use Rattle.std.specs.Ordering.{nat_cmp}
use Rattle.hypertrie_model.specs.IdSets.{IdSet}
use Rattle.hypertrie_model.specs.Sets.{empty}
use Rattle.hypertrie_model.specs.Slices.{slice_at_mask}

-- some tuple of the set has k at each position of the mask
abbrev pub Admits : IdSet → ℕ → ℕ → Type 0
Admits H mask k = slice_at_mask nat_cmp H mask k ≢ empty nat_cmp

-- each number of the tuple is the number of an id
abbrev pub IsIdTuple : List ℕ → Type 0
IsIdTuple t = All (λ k. k < 2 ^ 32) t
