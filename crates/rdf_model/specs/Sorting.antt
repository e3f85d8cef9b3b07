-- Texts in the order of their bytes, equal ones kept, and those of the members of a set.
use Rattle.std.specs.Prelude.{◌≡◌, cond, List, [], ◌∷◌, ◌++◌, length, map, IsPermutation}
use Rattle.std.specs.List.Sorted.{IsSorted}
use Rattle.std.specs.Ordering.{is_lt, nat_cmp}
use Rattle.std.specs.declared.cmp.Ordering.{Ordering}
use Rattle.std.specs.Cmp.Lexicographic.{slice_cmp}
use Rattle.std.specs.FinSet as set
use Rattle.hypertrie_model.specs.Folds.{fold_over, marked}
use Rattle.rdf_model.specs.Terms.{Text}

-- the members of a set, each once, in some order
pub record AreMembersOf {K : Type 0} {R : K → K → Ordering} (H : set.FinSet R) (members : List K) : Type 0 where
  pub all : set.from_list members ≡ H
  pub once : length members ≡ set.len H

abbrev pub text_cmp : Text → Text → Ordering
text_cmp = slice_cmp nat_cmp

-- the text before the first that isn't below it
abbrev pub placed : Text → List Text → List Text
placed x [] = x ∷ []
placed x (y ∷ ys) = cond (is_lt (text_cmp y x)) (y ∷ placed x ys) (x ∷ y ∷ ys)

abbrev pub in_order : List Text → List Text
in_order [] = []
in_order (x ∷ xs) = placed x (in_order xs)

-- the texts of both lists in order
abbrev pub merged : List Text → List Text → List Text
merged xs ys = in_order (xs ++ ys)

-- the text of each member, each member once, in order
unfoldable pub sorted_texts : {K : Type 0} {R : K → K → Ordering} → (K → Text) → set.FinSet R → List Text
sorted_texts text H = fold_over merged [] (marked H) (λ member _. text member ∷ [])

-- the texts of the members, each member once, in some order that is sorted
pub record AreSortedTexts {K : Type 0} {R : K → K → Ordering} (text : K → Text) (H : set.FinSet R) (texts : List Text) : Type 0 where
  pub members : List K
  pub listed : AreMembersOf H members
  pub each : IsPermutation (map text members) texts
  pub sorted : IsSorted text_cmp texts
