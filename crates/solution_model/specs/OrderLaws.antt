-- A list in the order of texts has the same members, and their texts in order.
use Rattle.std.specs.Prelude.{◌≡◌, true, false, cond, List, [], ◌∷◌, map, refl}
use Rattle.std.proofs.Common.{sym, ◌∙◌, ap, arith}
use Rattle.std.proofs.lemmas.List.Sorted.{IsPermutation-refl, IsPermutation-cons, IsPermutation-trans}
use Rattle.std.specs.List.Sorted.{IsPermutation, IsSorted}
use Rattle.std.specs.Ordering.{is_lt}
use Rattle.rdf_model.specs.Terms.{Text}
use Rattle.rdf_model.specs.Sorting.{text_cmp, placed, in_order}
use Rattle.rdf_model.specs.SortLaws.{sorted_is}
use Rattle.solution_model.specs.Ordered.{placed_by, ordered_by}

module _ {X : Type 0} (text : X → Text) where
  exchanged : (x y : X) (ys : List X) → IsPermutation (x ∷ y ∷ ys) (y ∷ x ∷ ys)
  exchanged x y ys = record { moves = (0, 1) ∷ []; below = (omega arith, omega arith, tt); is = refl }

  same-placed : (x : X) (ys : List X) → IsPermutation (x ∷ ys) (placed_by text x ys)
  same-placed x [] = IsPermutation-refl (x ∷ [])
  same-placed x (y ∷ ys) = elim (is_lt (text_cmp (text y) (text x))) as (λ b. IsPermutation (x ∷ y ∷ ys) (cond b (y ∷ placed_by text x ys) (x ∷ y ∷ ys))) [
    | true ↦ IsPermutation-trans (x ∷ y ∷ ys) (y ∷ x ∷ ys) (y ∷ placed_by text x ys) (exchanged x y ys) (IsPermutation-cons y (x ∷ ys) (placed_by text x ys) (same-placed x ys))
    | false ↦ IsPermutation-refl (x ∷ y ∷ ys)
  ]

  pub same-ordered : (xs : List X) → IsPermutation xs (ordered_by text xs)
  same-ordered [] = IsPermutation-refl []
  same-ordered (x ∷ xs) = IsPermutation-trans (x ∷ xs) (x ∷ ordered_by text xs) (placed_by text x (ordered_by text xs))
      (IsPermutation-cons x xs (ordered_by text xs) (same-ordered xs)) (same-placed x (ordered_by text xs))

  text-placed : (x : X) (ys : List X) → map text (placed_by text x ys) ≡ placed (text x) (map text ys)
  text-placed x [] = refl
  text-placed x (y ∷ ys) = elim (is_lt (text_cmp (text y) (text x))) as (λ b. map text (cond b (y ∷ placed_by text x ys) (x ∷ y ∷ ys)) ≡ cond b (text y ∷ placed (text x) (map text ys)) (text x ∷ text y ∷ map text ys)) [
    | true ↦ ap (λ ts. text y ∷ ts) (text-placed x ys)
    | false ↦ refl
  ]

  pub text-ordered : (xs : List X) → map text (ordered_by text xs) ≡ in_order (map text xs)
  text-ordered [] = refl
  text-ordered (x ∷ xs) = text-placed x (ordered_by text xs) ∙ ap (placed (text x)) (text-ordered xs)

  -- whatever sorts the texts gives those of the ordered list
  pub sorted_texts_are : (xs : List X) (ts : List Text) → IsPermutation (map text xs) ts → IsSorted text_cmp ts → ts ≡ map text (ordered_by text xs)
  sorted_texts_are xs ts moved sorted = sorted_is (map text xs) ts moved sorted ∙ sym (text-ordered xs)
