-- The first least of some places.
use Rattle.std.specs.Prelude.{◌≡◌, ℕ, ◌<◌, ◌≤◌, Bool, true, false, cond, nat_le, List, slice_index, slice_index_or, Option, None, Some, IfSome, MatchOption}

-- the place is there, and allowed
abbrev pub IsAllowed : List Bool → ℕ → Type 0
IsAllowed allowed i = slice_index_or allowed i false ≡ true

-- no allowed place has a lesser count
abbrev pub IsLeast : List ℕ → List Bool → ℕ → Type 0
IsLeast counts allowed r = (i : ℕ) → IsAllowed allowed i → slice_index counts r ≤ slice_index counts i

-- each allowed place before it has a greater count
abbrev pub IsBeforeEquals : List ℕ → List Bool → ℕ → Type 0
IsBeforeEquals counts allowed r = (i : ℕ) → i < r → IsAllowed allowed i → slice_index counts r < slice_index counts i

-- of two places the one with the lesser count, the first of equals
abbrev pub lesser_of : List ℕ → Option ℕ → ℕ → ℕ
lesser_of counts None i = i
lesser_of counts (Some b) i = cond (nat_le (slice_index counts b) (slice_index counts i)) b i

-- b is the first least of the allowed places below n, if there is one
pub record IsFirstLeast (counts : List ℕ) (allowed : List Bool) (n : ℕ) (b : Option ℕ) : Type 0 where
  pub there : IfSome b (λ r. (r < n) × IsAllowed allowed r)
  pub none : MatchOption b ((i : ℕ) → i < n → IsAllowed allowed i → ⊥) (λ _. Unit {0})
  pub least : IfSome b (λ r. (i : ℕ) → i < n → IsAllowed allowed i → slice_index counts r ≤ slice_index counts i)
  pub first : IfSome b (λ r. (i : ℕ) → i < r → IsAllowed allowed i → slice_index counts r < slice_index counts i)
