-- Things in numbered slots, seen as a finite map, and an index that lists them by their hashes.
use Rattle.std.specs.Prelude.{◌≡◌, ◌≢◌, ℕ, ◌+◌, List, [], ◌∷◌, Option, None, Some, slice_index_or}
use Rattle.std.specs.Option.{option_map}
use Rattle.std.specs.Ordering.{nat_cmp}
use Rattle.std.specs.FinMap as map
use Rattle.std.specs.FinMap.{FinMap}

module _ {X : Type 0} where
  -- what stands in these slots, each with its number, where the first slot has this number
  abbrev pub numbered_from : ℕ → List (Option X) → List (ℕ × X)
  numbered_from number [] = []
  numbered_from number (None ∷ slots) = numbered_from (number + 1) slots
  numbered_from number (Some x ∷ slots) = (number, x) ∷ numbered_from (number + 1) slots

  -- what stands in the slots, by number
  unfoldable pub numbered : List (Option X) → FinMap nat_cmp X
  numbered slots = map.from_entries (numbered_from 0 slots)

  -- what stands in a slot, if there is something
  abbrev pub slot_at : List (Option X) → ℕ → Option X
  slot_at slots number = slice_index_or slots number None

  -- the new slots have this under the number, and under every other number what the old ones have
  pub record Writes (old new : List (Option X)) (number : ℕ) (slot : Option X) : Type 0 where
    pub changed : slot_at new number ≡ slot
    pub others : (other : ℕ) → other ≢ number → slot_at new other ≡ slot_at old other

  -- the index lists exactly the numbers of what stands in the slots, each under its hash
  abbrev pub IsIndexed : (X → ℕ) → List (Option X) → FinMap nat_cmp ℕ → Type 0
  IsIndexed hash_of slots index = (number : ℕ) → map.get index number ≡ option_map hash_of (slot_at slots number)
