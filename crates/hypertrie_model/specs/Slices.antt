-- Keys and slices of a set of tuples. A slice fixes the key at one position, or at several at once, and leaves those places out.
use Rattle.std.specs.Prelude.{ℕ, zero, suc, ◌/◌, ◌%◌, ◌&&◌, Bool, true, false, cond, nat_eq, List, [], ◌∷◌, map, Option, None, Some}
use Rattle.std.specs.List.{filter, filter_map, remove}
use Rattle.std.specs.Ordering.{eq_by_cmp}
use Rattle.std.specs.declared.cmp.Ordering.{Ordering}
use Rattle.std.specs.FinSet as set
use Rattle.hypertrie_model.specs.Sets.{TupleSet}

-- the element at a position, where there is one
abbrev pub at : {A : Type 0} → ℕ → List A → Option A
at i [] = None
at zero (x ∷ t) = Some x
at (suc i) (x ∷ t) = at i t

-- the tuple with the positions of the mask taken out
abbrev pub without_mask : {A : Type 0} → ℕ → List A → List A
without_mask m [] = []
without_mask m (x ∷ t) = cond (nat_eq (m % 2) 1) (without_mask (m / 2) t) (x ∷ without_mask (m / 2) t)

module _ {A : Type 0} (R : A → A → Ordering) where
  -- whether the tuple has k at position i
  abbrev pub is_at : ℕ → A → List A → Bool
  is_at i k [] = false
  is_at zero k (x ∷ t) = eq_by_cmp R k x
  is_at (suc i) k (x ∷ t) = is_at i k t

  -- whether the tuple has k at each position of the mask, whose bit i stands for position i
  abbrev pub is_at_mask : ℕ → A → List A → Bool
  is_at_mask m k [] = true
  is_at_mask m k (x ∷ t) = cond (nat_eq (m % 2) 1) (eq_by_cmp R k x) true && is_at_mask (m / 2) k t

  -- the elements that stand at position i of some tuple
  unfoldable pub keys : TupleSet R → ℕ → set.FinSet R
  keys H i = set.from_list (filter_map (at i) (set.items H))

  -- the tuples with k at position i, that place taken out
  unfoldable pub slice : TupleSet R → ℕ → A → TupleSet R
  slice H i k = set.from_list (map (λ t. remove t i) (filter (is_at i k) (set.items H)))

  -- the tuples with k at each position of the mask, those places taken out
  unfoldable pub slice_at_mask : TupleSet R → ℕ → A → TupleSet R
  slice_at_mask H m k = set.from_list (map (without_mask m) (filter (is_at_mask m k) (set.items H)))
