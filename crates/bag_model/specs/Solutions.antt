-- The solutions of a basic graph pattern (SPARQL 1.1, section 18.3). An assignment is the list of the elements of all labels,
-- in the order of their numbers.
use Rattle.std.specs.Prelude.{◌≡◌, ℕ, zero, suc, ◌<◌, ◌&&◌, Bool, true, nat_eq, List, [], ◌∷◌, map, Option, None, Some}
use Rattle.std.specs.List.{AllByRecursion, IsDistinct, filter, filter_map, flat_map, list_any}
use Rattle.std.specs.Ordering.{eq_by_cmp}
use Rattle.std.specs.declared.cmp.Ordering.{Ordering}
use Rattle.hypertrie_model.specs.Sets.{TupleSet, has}
use Rattle.hypertrie_model.specs.Slices.{at}

-- what a pattern leaves once its constants are fixed: the tuples at its other places, and the labels of these in their order
pub record Rest {A : Type 0} (R : A → A → Ordering) : Type 0 where
  pub tuples : TupleSet R
  pub labels : List ℕ

-- the elements of some labels
abbrev pub image : {A : Type 0} → List A → List ℕ → List A
image a labels = filter_map (λ l. at l a) labels

-- every assignment of elements of the list u to n labels: each element for the first label, each for the second, and so on
abbrev pub assignments : {A : Type 0} → List A → ℕ → List (List A)
assignments u zero = [] ∷ []
assignments u (suc n) = flat_map (λ x. map (λ a. x ∷ a) (assignments u n)) u

-- a row: the element of each column's label, and none for a column without label
abbrev pub value : {A : Type 0} → List A → Option ℕ → Option A
value a None = None
value a (Some l) = at l a

abbrev pub row_of : {A : Type 0} → List (Option ℕ) → List A → List (Option A)
row_of columns a = map (value a) columns

module _ {A : Type 0} (R : A → A → Ordering) where
  -- the image of each pattern is one of its tuples
  abbrev pub is_solution : List (Rest R) → List A → Bool
  is_solution [] a = true
  is_solution (r ∷ rs) a = has r.tuples (image a r.labels) && is_solution rs a

  -- all solutions, the elements of u gone through label by label
  abbrev pub solutions : List A → ℕ → List (Rest R) → List (List A)
  solutions u n rests = filter (is_solution rests) (assignments u n)

  -- one row for each solution
  abbrev pub all_rows : List A → ℕ → List (Rest R) → List (Option ℕ) → List (List (Option A))
  all_rows u n rests columns = map (row_of columns) (solutions u n rests)

  -- u has no element twice, and has all that stand in the patterns' tuples
  pub record IsUniverse (u : List A) (rests : List (Rest R)) : Type 0 where
    pub distinct : IsDistinct (λ x y. eq_by_cmp R x y) u
    pub whole : AllByRecursion (λ r. (t : List A) → has r.tuples t ≡ true → AllByRecursion (λ x. list_any (eq_by_cmp R x) u ≡ true) t) rests

  -- each of n labels stands in some pattern
  abbrev pub HaveLabels : ℕ → List (Rest R) → Type 0
  HaveLabels n rests = (l : ℕ) → l < n → list_any (λ r. list_any (nat_eq l) r.labels) rests ≡ true
