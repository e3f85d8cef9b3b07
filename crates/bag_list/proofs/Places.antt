-- Lists place by place.
use Rattle.std.specs.Prelude.{◌≡◌, ℕ, ◌+◌, ◌<◌, List, [], ◌∷◌, ◌++◌, length, slice_index_or, refl}
use Rattle.std.proofs.Common.{sym, ◌∙◌, subst, arith, ap}
use Rattle.std.proofs.lemmas.List.{get_or_append_left, get_or_push, length-append}
use Rattle.std.specs.List.Sorted.{IsPermutation}
use native.Mathlib.Decide.{dec_lt}

pub append_none : {X : Type 0} (xs : List X) → xs ++ [] ≡ xs
append_none [] = refl
append_none (x ∷ xs) = ap (λ ys. x ∷ ys) (append_none xs)

-- an element of a list that has one at i
pub element : {X : Type 0} (xs : List X) (i : ℕ) → i < length xs → X
element [] i lt = absurd (omega (arith, lt))
element (x ∷ xs) i lt = x

-- what holds below i and at i holds below i + 1
pub to_next : (i : ℕ) (P : ℕ → Type 0) → ((j : ℕ) → j < i → P j) → P i → (j : ℕ) → j < i + 1 → P j
to_next i P below here j lt = elim (dec_lt j i) as (λ _. P j) [
  | yes low ↦ below j low
  | no high ↦ let is : i ≡ j = omega (arith, lt, high) in subst P is here
]

-- what holds of two lists place by place, also with one element more in each
pub both_more : {X Y : Type 0} (P : X → Y → Type 0) (xs : List X) (ys : List Y) (x : X) (y : Y) → length xs ≡ length ys → ((i : ℕ) (o : X) (m : Y) → i < length xs → P (slice_index_or xs i o) (slice_index_or ys i m)) → P x y → (i : ℕ) (o : X) (m : Y) → i < length (xs ++ x ∷ []) → P (slice_index_or (xs ++ x ∷ []) i o) (slice_index_or (ys ++ y ∷ []) i m)
both_more P xs ys x y same each here i o m lt =
    elim (dec_lt i (length xs)) as (λ _. P (slice_index_or (xs ++ x ∷ []) i o) (slice_index_or (ys ++ y ∷ []) i m)) [
      | yes low ↦
          subst (λ v. P v (slice_index_or (ys ++ y ∷ []) i m)) (sym (get_or_append_left xs (x ∷ []) o i low))
          (subst (λ w. P (slice_index_or xs i o) w) (sym (get_or_append_left ys (y ∷ []) m i (omega (arith, low, same)))) (each i o m low))
      | no high ↦
          let long = length-append xs (x ∷ []) in
          let at_end : length xs ≡ i = omega (arith, long, lt, high) in
          subst (λ v. P v (slice_index_or (ys ++ y ∷ []) i m)) (sym (get_or_push xs x o i at_end))
          (subst (λ w. P x w) (sym (get_or_push ys y m i (sym same ∙ at_end))) here)
    ]

-- what holds of a list place by place, also with one element more
pub each_more : {X : Type 0} (P : X → Type 0) (xs : List X) (x : X) → ((i : ℕ) (o : X) → i < length xs → P (slice_index_or xs i o)) → P x → (i : ℕ) (o : X) → i < length (xs ++ x ∷ []) → P (slice_index_or (xs ++ x ∷ []) i o)
each_more P xs x each here i o lt = both_more (λ y _. P y) xs xs x x refl (λ j y _ low. each j y low) here i o o lt

pub permutation-equal : {X : Type 0} (xs xs' ys ys' : List X) → xs' ≡ xs → ys' ≡ ys → IsPermutation xs ys → IsPermutation xs' ys'
permutation-equal xs xs' ys ys' e f p = subst (λ zs. IsPermutation zs ys') (sym e) (subst (IsPermutation xs) (sym f) p)
