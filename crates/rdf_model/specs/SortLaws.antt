-- A sorted list is the list in order of any list with the same elements.
use Rattle.std.specs.Prelude.{◌≡◌, ℕ, zero, suc, ◌+◌, ◌≤◌, true, false, cond, List, [], ◌∷◌, slice_index_or, refl}
use Rattle.std.proofs.Common.{sym, ◌∙◌, ap, arith, add-one}
use Rattle.std.proofs.lemmas.Cmp.{tied_itself, nat_list_cmp_total}
use Rattle.std.proofs.lemmas.List.Sums.{sum_by-cons}
use Rattle.std.proofs.lemmas.List.Sorted.{sum_by-IsPermutation, IsPermutation-refl, IsPermutation-trans, IsPermutation-cons, IsPermutation-middle}
use Rattle.std.specs.List.{AllByRecursion, sum_by}
use Rattle.std.specs.List.Sorted.{IsPermutation, IsSorted}
use Rattle.std.specs.Ordering.{is_lt, eq_by_cmp, ordering_reverse}
use Rattle.std.specs.declared.cmp.Ordering.{Ordering}
use Rattle.std.specs.declared.cmp.Ordering.TheVariants.{Less, Equal, Greater}
use Rattle.std.specs.Cmp.{IsTotalOrder}
use Rattle.std.specs.FinSet.{IsAntisymmetric, nat_cmp-IsAntisymmetric, slice_cmp-IsAntisymmetric}
use Rattle.hypertrie_model.specs.SetLaws.{tied-itself, tied-is}
use Rattle.rdf_model.specs.Terms.{Text}
use Rattle.rdf_model.specs.Sorting.{text_cmp, placed, in_order}

-- no text is below one before it
abbrev pub Rises : List Text → Type 0
Rises [] = Unit {0}
Rises (x ∷ xs) = AllByRecursion (λ y. is_lt (text_cmp y x) ≡ false) xs × Rises xs

abbrev pub o : IsTotalOrder text_cmp
o = nat_list_cmp_total

abbrev pub exact : IsAntisymmetric text_cmp
exact = slice_cmp-IsAntisymmetric nat_cmp-IsAntisymmetric

less_of : (r : Ordering) → is_lt r ≡ true → r ≡ Less
less_of Less e = refl
less_of Equal e = absurd (let n : ⊥ = cc in n)
less_of Greater e = absurd (let n : ⊥ = cc in n)

-- from z not below y and y not below x, z isn't below x
not_below : (x y z : Text) → is_lt (text_cmp y x) ≡ false → is_lt (text_cmp z y) ≡ false → is_lt (text_cmp z x) ≡ false
not_below x y z yx zy = elim (is_lt (text_cmp z x)) as (λ b. is_lt (text_cmp z x) ≡ b → b ≡ false) [
  | false ↦ λ _. refl
  | true ↦ λ e. absurd (none (less_of (text_cmp z x) e) (text_cmp x y) refl)
] refl where
  none : text_cmp z x ≡ Less → (r : Ordering) → text_cmp x y ≡ r → ⊥
  none zx Less e = let lt : false ≡ true = sym zy ∙ ap is_lt (o.trans z x y zx e) in cc
  none zx Equal e =
      let same : text_cmp z y ≡ text_cmp z x = o.antisymm z y ∙ ap ordering_reverse (sym (o.congr x y z e)) ∙ sym (o.antisymm z x) in
      let lt : false ≡ true = sym zy ∙ ap is_lt (same ∙ zx) in
      cc
  none zx Greater e =
      let lt : false ≡ true = sym yx ∙ ap is_lt (o.antisymm y x ∙ ap ordering_reverse e) in
      cc

all_above : (x y : Text) (ys : List Text) → is_lt (text_cmp y x) ≡ false → AllByRecursion (λ z. is_lt (text_cmp z y) ≡ false) ys → AllByRecursion (λ z. is_lt (text_cmp z x) ≡ false) ys
all_above x y [] yx all = tt
all_above x y (z ∷ ys) yx all = (not_below x y z yx all.0, all_above x y ys yx all.1)

get_behind : (x : Text) (xs : List Text) (k : ℕ) (d : Text) → slice_index_or (x ∷ xs) (k + 1) d ≡ slice_index_or xs k d
get_behind x xs k d = ap (λ n. slice_index_or (x ∷ xs) n d) (add-one k)

-- what a sort ensures
pub rises_sorted : (xs : List Text) → IsSorted text_cmp xs → Rises xs
rises_sorted [] s = tt
rises_sorted (x ∷ []) s = (tt, tt)
rises_sorted (x ∷ y ∷ ys) s =
    let first : is_lt (text_cmp y x) ≡ false = s 0 x (omega arith) (omega arith) in
    let rest = rises_sorted (y ∷ ys) (λ k d low high. (λ i. is_lt (text_cmp (sym (get_behind x (y ∷ ys) (k + 1) d) i) (sym (get_behind x (y ∷ ys) k d) i))) ∙ s (k + 1) d (omega arith) (omega arith)) in
    ((first, all_above x y ys first rest.0), rest)

placed_all : (P : Text → Type 0) (x : Text) (ys : List Text) → P x → AllByRecursion P ys → AllByRecursion P (placed x ys)
placed_all P x [] px all = (px, tt)
placed_all P x (y ∷ ys) px all =
    elim (is_lt (text_cmp y x)) as (λ b. AllByRecursion P (cond b (y ∷ placed x ys) (x ∷ y ∷ ys))) [
      | true ↦ (all.0, placed_all P x ys px all.1)
      | false ↦ (px, all)
    ]

rises_placed : (x : Text) (ys : List Text) → Rises ys → Rises (placed x ys)
rises_placed x [] r = (tt, tt)
rises_placed x (y ∷ ys) r =
    elim (is_lt (text_cmp y x)) as (λ b. is_lt (text_cmp y x) ≡ b → Rises (cond b (y ∷ placed x ys) (x ∷ y ∷ ys))) [
      | true ↦ λ e. (placed_all (λ z. is_lt (text_cmp z y) ≡ false) x ys (above e) r.0, rises_placed x ys r.1)
      | false ↦ λ e. ((e, all_above x y ys e r.0), r)
    ] refl where
      above : is_lt (text_cmp y x) ≡ true → is_lt (text_cmp x y) ≡ false
      above e = ap is_lt (o.antisymm x y ∙ ap ordering_reverse (less_of (text_cmp y x) e))

rises_in_order : (xs : List Text) → Rises (in_order xs)
rises_in_order [] = tt
rises_in_order (x ∷ xs) = rises_placed x (in_order xs) (rises_in_order xs)

sum_placed : (f : Text → ℕ) (x : Text) (ys : List Text) → sum_by f (placed x ys) ≡ f x + sum_by f ys
sum_placed f x [] = sum_by-cons f x []
sum_placed f x (y ∷ ys) =
    elim (is_lt (text_cmp y x)) as (λ b. sum_by f (cond b (y ∷ placed x ys) (x ∷ y ∷ ys)) ≡ f x + sum_by f (y ∷ ys)) [
      | true ↦ let rest = sum_placed f x ys in omega (arith, sum_by-cons f y (placed x ys), sum_by-cons f y ys)
      | false ↦ sum_by-cons f x (y ∷ ys)
    ]

pub sum_in_order : (f : Text → ℕ) (xs : List Text) → sum_by f (in_order xs) ≡ sum_by f xs
sum_in_order f [] = refl
sum_in_order f (x ∷ xs) = sum_placed f x (in_order xs) ∙ ap (λ n. f x + n) (sum_in_order f xs) ∙ sym (sum_by-cons f x xs)

-- 1 for each element that ties with x
ties_with : Text → Text → ℕ
ties_with x z = cond (eq_by_cmp text_cmp x z) 1 0

counted : (x : Text) (xs : List Text) → 1 ≤ sum_by (ties_with x) (x ∷ xs)
unfolding ties_with
counted x xs =
    let one : ties_with x x ≡ 1 = ap (λ b. cond b 1 0) (tied-itself o x) in
    omega (arith, sum_by-cons (ties_with x) x xs)

none_counted : (x : Text) → sum_by (ties_with x) [] ≡ 0
unfolding ties_with
none_counted x = refl

-- what is counted isn't below what none is below
not_less : (x y : Text) (zs : List Text) → AllByRecursion (λ z. is_lt (text_cmp z y) ≡ false) zs → 1 ≤ sum_by (ties_with x) zs → is_lt (text_cmp x y) ≡ false
unfolding ties_with
not_less x y [] all some = absurd (omega (arith, none_counted x))
not_less x y (z ∷ zs) all some =
    elim (eq_by_cmp text_cmp x z) as (λ b. eq_by_cmp text_cmp x z ≡ b → is_lt (text_cmp x y) ≡ false) [
      | true ↦ λ e. ap (λ w. is_lt (text_cmp w y)) (tied-is exact x z e) ∙ all.0
      | false ↦ λ e.
          let none : ties_with x z ≡ 0 = ap (λ b. cond b 1 0) e in
          not_less x y zs all.1 (omega (arith, sum_by-cons (ties_with x) z zs, none, some))
    ] refl

first_least : (y : Text) (ys : List Text) → Rises (y ∷ ys) → (x : Text) → 1 ≤ sum_by (ties_with x) (y ∷ ys) → is_lt (text_cmp x y) ≡ false
first_least y ys r x some = not_less x y (y ∷ ys) (ap is_lt (tied_itself o y), r.0) some

neither_less : (x y : Text) → is_lt (text_cmp x y) ≡ false → is_lt (text_cmp y x) ≡ false → x ≡ y
neither_less x y xy yx = by (text_cmp x y) refl where
  by : (r : Ordering) → text_cmp x y ≡ r → x ≡ y
  by Less e = absurd (let n : false ≡ true = sym xy ∙ ap is_lt e in let f : ⊥ = cc in f)
  by Equal e = exact x y e
  by Greater e = absurd (let n : false ≡ true = sym yx ∙ ap is_lt (o.antisymm y x ∙ ap ordering_reverse e) in let f : ⊥ = cc in f)

-- rising lists with equal sums are one
same_rising : (xs ys : List Text) → Rises xs → Rises ys → ((f : Text → ℕ) → sum_by f xs ≡ sum_by f ys) → xs ≡ ys
same_rising [] [] r s sums = refl
same_rising [] (y ∷ ys) r s sums = absurd (omega (arith, counted y ys, sums (ties_with y), none_counted y))
same_rising (x ∷ xs) [] r s sums = absurd (omega (arith, counted x xs, sums (ties_with x), none_counted x))
same_rising (x ∷ xs) (y ∷ ys) r s sums =
    let xy = first_least y ys s x (omega (arith, counted x xs, sums (ties_with x))) in
    let yx = first_least x xs r y (omega (arith, counted y ys, sums (ties_with y))) in
    let is = neither_less x y xy yx in
    (λ i. is i ∷ same_rising xs ys r.1 s.1 (λ f. omega (arith, sums f, sum_by-cons f x xs, sum_by-cons f y ys, ap f is)) i)

-- a sorted list of the elements of another is that list in order
pub sorted_is : (xs ys : List Text) → IsPermutation xs ys → IsSorted text_cmp ys → ys ≡ in_order xs
sorted_is xs ys moved sorted = same_rising ys (in_order xs) (rises_sorted ys sorted) (rises_in_order xs) (λ f. sum_by-IsPermutation f xs ys moved ∙ sym (sum_in_order f xs))

-- and lists with the same sums are one list in order
pub in_order-sums : (xs ys : List Text) → ((f : Text → ℕ) → sum_by f xs ≡ sum_by f ys) → in_order xs ≡ in_order ys
in_order-sums xs ys sums = same_rising (in_order xs) (in_order ys) (rises_in_order xs) (rises_in_order ys) (λ f. sum_in_order f xs ∙ sums f ∙ sym (sum_in_order f ys))

-- a list in order has the elements of the list, and is sorted

placed_moved : (x : Text) (ys : List Text) → IsPermutation (x ∷ ys) (placed x ys)
placed_moved x [] = IsPermutation-refl (x ∷ [])
placed_moved x (y ∷ ys) =
    elim (is_lt (text_cmp y x)) as (λ b. IsPermutation (x ∷ y ∷ ys) (cond b (y ∷ placed x ys) (x ∷ y ∷ ys))) [
      | true ↦ IsPermutation-trans _ (y ∷ x ∷ ys) _ (IsPermutation-middle (x ∷ []) y ys) (IsPermutation-cons y _ _ (placed_moved x ys))
      | false ↦ IsPermutation-refl (x ∷ y ∷ ys)
    ]

pub in_order_moved : (xs : List Text) → IsPermutation xs (in_order xs)
in_order_moved [] = IsPermutation-refl []
in_order_moved (x ∷ xs) = IsPermutation-trans _ (x ∷ in_order xs) _ (IsPermutation-cons x _ _ (in_order_moved xs)) (placed_moved x (in_order xs))

sorted_rising : (xs : List Text) → Rises xs → IsSorted text_cmp xs
sorted_rising [] r k d low high = absurd (omega arith)
sorted_rising (x ∷ []) r k d low high = absurd (omega arith)
sorted_rising (x ∷ y ∷ ys) r zero d low high = r.0.0
sorted_rising (x ∷ y ∷ ys) r (suc k) d low high =
    let next : suc k + 1 ≡ suc (k + 1) = omega arith in
    (λ i. is_lt (text_cmp (slice_index_or (x ∷ y ∷ ys) (next i) d) (slice_index_or (y ∷ ys) k d))) ∙ sorted_rising (y ∷ ys) r.1 k d (omega arith) (omega arith)

pub in_order_sorted : (xs : List Text) → IsSorted text_cmp (in_order xs)
in_order_sorted xs = sorted_rising (in_order xs) (rises_in_order xs)
