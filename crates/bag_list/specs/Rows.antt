-- The rows of a search.
use Rattle.std.specs.Prelude.{◌≡◌, ℕ, ◌<◌, Bool, true, false, List, [], ◌∷◌, ◌++◌, length, map, Option, None, Some}
use Rattle.std.specs.List.Sorted.{IsPermutation}
use Rattle.std.specs.Ordering.{nat_cmp}
use Rattle.hypertrie_model.specs.IdSets.{IdSet}
use Rattle.bag_model.specs.Answers.{chosen_rows}
use Rattle.bag_model.specs.Solutions.{row_of}
use Rattle.bag_list.specs.declared.search.Search.{Search}
use Rattle.bag_list.specs.Search.{coming_of, numbers}

abbrev pub Row : Type 0
Row = List (Option ℕ)

-- the row of the keys where a search stands
abbrev pub row_here : {O : Type 0} → Search O → Row
row_here s = row_of s.columns.items (numbers s.values.items)

-- the same where a row was given
abbrev pub present_row : {O : Type 0} → Search O → Bool → Option Row
present_row s true = Some (row_here s)
present_row s false = None

-- the rows of the solutions that are still to come
abbrev pub rows_to_come : {O : Type 0} → (O → IdSet) → Search O → List Row
rows_to_come tuples s = chosen_rows nat_cmp s.distinct (map (row_of s.columns.items) (coming_of tuples s))

module _ {O : Type 0} (tuples : O → IdSet) where
  -- t goes on from s with the row that it is at
  abbrev pub GivesRow : Search O → Search O → Type 0
  GivesRow s t = IsPermutation (rows_to_come tuples s) (row_here t ∷ rows_to_come tuples t)

  -- t goes on from s with n rows left out
  abbrev pub LeavesOut : ℕ → Search O → Search O → Type 0
  LeavesOut n s t = (left : List Row) × (length left ≡ n) × IsPermutation (rows_to_come tuples s) (left ++ rows_to_come tuples t)

  -- no row was to come of s, or fewer than n, and none is of t
  abbrev pub HasEnded : Search O → Search O → Type 0
  HasEnded s t = (rows_to_come tuples s ≡ []) × (rows_to_come tuples t ≡ [])

  abbrev pub EndsBefore : ℕ → Search O → Search O → Type 0
  EndsBefore n s t = (length (rows_to_come tuples s) < n) × (rows_to_come tuples t ≡ [])
