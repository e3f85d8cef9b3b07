-- What the entries of a finite map come to, put together by an operation: sums, and exclusive or.
use Rattle.std.specs.Prelude.{ℕ, ◌+◌, List, [], ◌∷◌, bit_xor}
use Rattle.std.specs.Prelude.{map as each}
use Rattle.std.specs.declared.cmp.Ordering.{Ordering}
use Rattle.std.specs.FinMap as map
use Rattle.std.specs.FinMap.{FinMap}
use Rattle.std.specs.FinSet as set
use Rattle.std.specs.FinSet.{FinSet}

-- the operation along a list of entries
abbrev pub combined : {K X Y : Type 0} → (Y → Y → Y) → Y → (K → X → Y) → List (K × X) → Y
combined op none f [] = none
combined op none f (e ∷ es) = op (f e.0 e.1) (combined op none f es)

module _ {K : Type 0} {R : K → K → Ordering} where
  -- the operation along a map
  unfoldable pub fold_over : {X Y : Type 0} → (Y → Y → Y) → Y → FinMap R X → (K → X → Y) → Y
  fold_over op none m f = combined op none f (map.entries m)

  -- f of each entry, added up
  unfoldable pub sum_over : {X : Type 0} → FinMap R X → (K → X → ℕ) → ℕ
  sum_over m f = fold_over (λ a b. a + b) 0 m f

  -- the set as a map from its members to nothing
  abbrev pub marked : FinSet R → FinMap R (Unit {0})
  marked s = map.from_entries (each (λ k. (k, tt)) (set.items s))

  -- the exclusive or of f of each member, each member once
  unfoldable pub xor_over : FinSet R → (K → ℕ) → ℕ
  xor_over s f = fold_over bit_xor 0 (marked s) (λ k _. f k)
