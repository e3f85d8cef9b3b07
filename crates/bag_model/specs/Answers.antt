-- Which rows answer a query, of all its rows: DISTINCT, OFFSET and LIMIT (SPARQL 1.1, section 15).
use Rattle.std.specs.Prelude.{◌≡◌, ℕ, ◌-◌, Bool, not, cond, min, List, [], ◌∷◌, ◌++◌, length, Option, None, Some}
use Rattle.std.specs.List.{filter}
use Rattle.std.specs.List.Sorted.{IsPermutation}
use Rattle.std.specs.Option.{option_cmp}
use Rattle.std.specs.Ordering.{eq_by_cmp}
use Rattle.std.specs.declared.cmp.Ordering.{Ordering}
use Rattle.std.specs.Cmp.Lexicographic.{slice_cmp}

module _ {A : Type 0} (R : A → A → Ordering) where
  -- whether two rows have the same values, an empty one being equal to an empty one alone
  abbrev pub same_row : List (Option A) → List (Option A) → Bool
  same_row q r = eq_by_cmp (slice_cmp (option_cmp R)) q r

  -- each row at its first place alone
  abbrev pub first_places : List (List (Option A)) → List (List (Option A))
  first_places [] = []
  first_places (r ∷ rows) = r ∷ filter (λ q. not (same_row r q)) (first_places rows)

  -- the rows that are chosen from, under DISTINCT or not
  abbrev pub chosen_rows : Bool → List (List (Option A)) → List (List (Option A))
  chosen_rows distinct rows = cond distinct (first_places rows) rows

-- of n rows so many are given: those that the offset leaves, up to the limit
abbrev pub n_given : Option ℕ → ℕ → ℕ → ℕ
n_given None offset n = n - offset
n_given (Some limit) offset n = min limit (n - offset)

-- the rows are an answer: as many of the chosen ones as offset and limit leave, in any order
pub record IsAnswer {X : Type 0} (limit : Option ℕ) (offset : ℕ) (chosen rows : List X) : Type 0 where
  pub number : length rows ≡ n_given limit offset (length chosen)
  pub others : List X
  pub are : IsPermutation chosen (rows ++ others)
