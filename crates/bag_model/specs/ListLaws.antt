-- Lists without repeats: those that have the same members are one in another order.
use Rattle.std.specs.Prelude.{◌≡◌, ◌&&◌, ◌||◌, Bool, true, false, cond, List, [], ◌∷◌, ◌++◌, refl}
use Rattle.std.proofs.Common.{sym, ◌∙◌, ap, subst}
use Rattle.std.proofs.lemmas.List.Sorted.{IsPermutation-refl, IsPermutation-sym, IsPermutation-cons, IsPermutation-trans, IsPermutation-middle, list_any-IsPermutation}
use Rattle.std.proofs.lemmas.Map.Keys.{IsDistinct-head, IsDistinct-tail, IsDistinct-cons, IsDistinct-IsPermutation}
use Rattle.std.specs.List.{AllByRecursion, IsDistinct, filter, list_any}
use Rattle.std.specs.List.Sorted.{IsPermutation}
use Rattle.hypertrie_model.specs.SetLaws.{same_test, or_cases, or_right}

-- a test that says of two elements whether they are one
pub record IsExact {X : Type 0} (E : X → X → Bool) : Type 0 where
  pub itself : (x : X) → E x x ≡ true
  pub is : (x y : X) → E x y ≡ true → x ≡ y

-- x stands in the list
pub record IsSplit {X : Type 0} (x : X) (xs : List X) : Type 0 where
  pub before : List X
  pub behind : List X
  pub is : xs ≡ before ++ x ∷ behind

module _ {X : Type 0} {E : X → X → Bool} (exact : IsExact E) where
  pub flips : (x y : X) → E x y ≡ E y x
  flips x y = same_test (E x y) (E y x)
      (λ e. ap (E y) (exact.is x y e) ∙ exact.itself y)
      (λ e. ap (E x) (exact.is y x e) ∙ exact.itself x)

  pub none_equal : (x : X) (ys : List X) → AllByRecursion (λ y. E x y ≡ false) ys → list_any (E x) ys ≡ false
  none_equal x [] all = refl
  none_equal x (y ∷ ys) all = ap (λ b. b || list_any (E x) ys) all.0 ∙ none_equal x ys all.1

  pub split : (x : X) (ys : List X) → list_any (E x) ys ≡ true → IsSplit x ys
  split x [] e = absurd (let f : ⊥ = cc in f)
  split x (y ∷ ys) e = or_cases (E x y) (list_any (E x) ys) e (IsSplit x (y ∷ ys))
      (λ here. record { before = []; behind = ys; is = ap (λ z. z ∷ ys) (sym (exact.is x y here)) })
      (λ later. let s = split x ys later in record { before = y ∷ s.before; behind = s.behind; is = ap (λ zs. y ∷ zs) s.is })

  -- behind a common head the members are the same too
  behind_head : (x : X) (xs zs : List X) → ((q : X) → list_any (E q) (x ∷ xs) ≡ list_any (E q) (x ∷ zs)) → IsDistinct E (x ∷ xs) → (q : X) → list_any (E q) xs ≡ true → list_any (E q) zs ≡ true
  behind_head x xs zs same distinct q e = or_cases (E q x) (list_any (E q) zs) (sym (same q) ∙ or_right (E q x) (list_any (E q) xs) e) (list_any (E q) zs ≡ true)
      (λ here.
      let t : true ≡ false = sym (ap (λ z. list_any (E z) xs) (sym (exact.is q x here)) ∙ e) ∙ none_equal x xs (IsDistinct-head E x xs distinct) in
      absurd (let f : ⊥ = cc in f))
      (λ later. later)

  pub same_members : (xs ys : List X) → ((q : X) → list_any (E q) xs ≡ list_any (E q) ys) → IsDistinct E xs → IsDistinct E ys → IsPermutation xs ys
  same_members [] [] same dx dy = IsPermutation-refl []
  same_members [] (y ∷ ys) same dx dy =
      let t : false ≡ true = same y ∙ ap (λ b. b || list_any (E y) ys) (exact.itself y) in
      absurd (let f : ⊥ = cc in f)
  same_members (x ∷ xs) ys same dx dy =
      let s = split x ys (sym (same x) ∙ ap (λ b. b || list_any (E x) xs) (exact.itself x)) in
      let zs = s.before ++ s.behind in
      let moved : IsPermutation ys (x ∷ zs) = subst (λ l. IsPermutation l (x ∷ zs)) (sym s.is) (IsPermutation-middle s.before x s.behind) in
      let dz = IsDistinct-IsPermutation E flips ys (x ∷ zs) moved dy in
      let whole = λ (q : X). same q ∙ list_any-IsPermutation (E q) ys (x ∷ zs) moved in
      IsPermutation-trans (x ∷ xs) (x ∷ zs) ys
      (IsPermutation-cons x xs zs
      (same_members xs zs
      (λ q. same_test (list_any (E q) xs) (list_any (E q) zs) (behind_head x xs zs whole dx q) (behind_head x zs xs (λ p. sym (whole p)) dz q))
      (IsDistinct-tail E x xs dx) (IsDistinct-tail E x zs dz)))
      (IsPermutation-sym ys (x ∷ zs) moved)

  -- which members pass a test
  pub any-filter : (p : X → Bool) (q : X) (xs : List X) → list_any (E q) (filter p xs) ≡ (list_any (E q) xs && p q)
  any-filter p q [] = refl
  any-filter p q (x ∷ xs) = elim (p x) as (λ b. p x ≡ b → list_any (E q) (cond b (x ∷ filter p xs) (filter p xs)) ≡ ((E q x || list_any (E q) xs) && p q)) [
    | true ↦ λ e. elim (E q x) as (λ b. E q x ≡ b → (b || list_any (E q) (filter p xs)) ≡ ((b || list_any (E q) xs) && p q)) [
      | true ↦ λ is. sym (ap p (exact.is q x is) ∙ e)
      | false ↦ λ _. any-filter p q xs
    ] refl
    | false ↦ λ e. elim (E q x) as (λ b. E q x ≡ b → list_any (E q) (filter p xs) ≡ ((b || list_any (E q) xs) && p q)) [
      | true ↦ λ is. any-filter p q xs ∙ ap (λ c. list_any (E q) xs && c) (ap p (exact.is q x is) ∙ e) ∙ and_false (list_any (E q) xs) ∙ sym (ap p (exact.is q x is) ∙ e)
      | false ↦ λ _. any-filter p q xs
    ] refl
  ] refl where
    and_false : (b : Bool) → (b && false) ≡ false
    and_false true = refl
    and_false false = refl

  all-filter : (p : X → Bool) (P : X → Type 0) (xs : List X) → AllByRecursion P xs → AllByRecursion P (filter p xs)
  all-filter p P [] all = tt
  all-filter p P (x ∷ xs) all = elim (p x) as (λ b. AllByRecursion P (cond b (x ∷ filter p xs) (filter p xs))) [
    | true ↦ (all.0, all-filter p P xs all.1)
    | false ↦ all-filter p P xs all.1
  ]

  pub distinct-filter : (p : X → Bool) (xs : List X) → IsDistinct E xs → IsDistinct E (filter p xs)
  distinct-filter p [] d = d
  distinct-filter p (x ∷ xs) d = elim (p x) as (λ b. IsDistinct E (cond b (x ∷ filter p xs) (filter p xs))) [
    | true ↦ IsDistinct-cons E x (filter p xs) (all-filter p (λ y. E x y ≡ false) xs (IsDistinct-head E x xs d)) (distinct-filter p xs (IsDistinct-tail E x xs d))
    | false ↦ distinct-filter p xs (IsDistinct-tail E x xs d)
  ]

  -- what a test passes that no element equal to x passes is apart from x
  pub apart-filter : (p : X → Bool) (x : X) (xs : List X) → ((y : X) → p y ≡ true → E x y ≡ false) → AllByRecursion (λ y. E x y ≡ false) (filter p xs)
  apart-filter p x [] apart = tt
  apart-filter p x (y ∷ ys) apart = elim (p y) as (λ b. p y ≡ b → AllByRecursion (λ z. E x z ≡ false) (cond b (y ∷ filter p ys) (filter p ys))) [
    | true ↦ λ e. (apart y e, apart-filter p x ys apart)
    | false ↦ λ e. apart-filter p x ys apart
  ] refl
