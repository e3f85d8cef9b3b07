-- Which assignments are solutions, and over which elements.
use Rattle.std.specs.Prelude.{◌≡◌, ℕ, zero, suc, ◌<◌, ◌&&◌, ◌||◌, Bool, true, false, nat_eq, List, [], ◌∷◌, ◌++◌, map, refl, Option, None, Some}
use Rattle.std.proofs.Common.{sym, ◌∙◌, ap, subst, arith}
use Rattle.std.proofs.lemmas.Bool.Decides.{nat_tests}
use Rattle.std.proofs.lemmas.Cmp.{lists_total}
use Rattle.std.proofs.lemmas.List.Folds.{list_any-append}
use Rattle.std.proofs.lemmas.List.Sorted.{IsPermutation-map}
use Rattle.std.proofs.lemmas.Map.Keys.{IsDistinct-head, IsDistinct-tail, IsDistinct-cons}
use Rattle.std.specs.Cmp.{IsTotalOrder}
use Rattle.std.specs.Cmp.Lexicographic.{slice_cmp}
use Rattle.std.specs.FinSet.{IsAntisymmetric, slice_cmp-IsAntisymmetric}
use Rattle.std.specs.List.{AllByRecursion, IsDistinct, cons_option, flat_map, list_any}
use Rattle.std.specs.List.Sorted.{IsPermutation}
use Rattle.std.specs.Ordering.{eq_by_cmp}
use Rattle.std.specs.declared.cmp.Ordering.{Ordering}
use Rattle.hypertrie_model.specs.SetLaws.{same_test, and_both, or_cases}
use Rattle.hypertrie_model.specs.Sets.{has}
use Rattle.hypertrie_model.specs.Slices.{at}
use Rattle.hypertrie_model.specs.UnionLaws.{tied-cons}
use Rattle.bag_model.specs.AnswerLaws.{exact_order}
use Rattle.bag_model.specs.ListLaws.{IsExact, same_members, any-filter, distinct-filter}
use Rattle.bag_model.specs.Solutions.{Rest, image, assignments, row_of, is_solution, solutions, all_rows, IsUniverse, HaveLabels}

module _ {A : Type 0} (R : A → A → Ordering) where
  abbrev pub same_element : A → A → Bool
  same_element x y = eq_by_cmp R x y

  abbrev pub same_assignment : List A → List A → Bool
  same_assignment a b = eq_by_cmp (slice_cmp R) a b

  -- a has n elements, each of u
  abbrev pub is_assignment : List A → ℕ → List A → Bool
  is_assignment u zero [] = true
  is_assignment u zero (x ∷ a) = false
  is_assignment u (suc n) [] = false
  is_assignment u (suc n) (x ∷ a) = list_any (same_element x) u && is_assignment u n a

module _ {A : Type 0} {R : A → A → Ordering} (o : IsTotalOrder R) (exact : IsAntisymmetric R) where
  pub exact_elements : IsExact (same_element R)
  exact_elements = exact_order o exact

  pub exact_assignments : IsExact (same_assignment R)
  exact_assignments = exact_order (lists_total o) (slice_cmp-IsAntisymmetric exact)

  pub any-assignments : (u : List A) (n : ℕ) (a : List A) → list_any (same_assignment R a) (assignments u n) ≡ is_assignment R u n a
  any-assignments u zero [] = refl
  any-assignments u zero (x ∷ a) = refl
  any-assignments u (suc n) [] = none u where
    none_of : (x : A) (ts : List (List A)) → list_any (same_assignment R []) (map (λ a. x ∷ a) ts) ≡ false
    none_of x [] = refl
    none_of x (t ∷ ts) = none_of x ts

    none : (v : List A) → list_any (same_assignment R []) (flat_map (λ x. map (λ a. x ∷ a) (assignments u n)) v) ≡ false
    none [] = refl
    none (x ∷ v) = list_any-append (same_assignment R []) (map (λ a. x ∷ a) (assignments u n)) _ ∙ (λ j. none_of x (assignments u n) j || none v j)
  any-assignments u (suc n) (y ∷ b) = some u ∙ ap (λ t. list_any (same_element R y) u && t) (any-assignments u n b) where
    under : (x : A) (ts : List (List A)) → list_any (same_assignment R (y ∷ b)) (map (λ a. x ∷ a) ts) ≡ (same_element R y x && list_any (same_assignment R b) ts)
    under x [] = no (same_element R y x) where
      no : (t : Bool) → false ≡ (t && false)
      no true = refl
      no false = refl
    under x (t ∷ ts) = (λ j. tied-cons R y x b t j || under x ts j) ∙ spread (same_element R y x) (same_assignment R b t) (list_any (same_assignment R b) ts) where
      spread : (p q r : Bool) → ((p && q) || (p && r)) ≡ (p && (q || r))
      spread true q r = refl
      spread false q r = refl

    some : (v : List A) → list_any (same_assignment R (y ∷ b)) (flat_map (λ x. map (λ a. x ∷ a) (assignments u n)) v) ≡ (list_any (same_element R y) v && list_any (same_assignment R b) (assignments u n))
    some [] = refl
    some (x ∷ v) =
        list_any-append (same_assignment R (y ∷ b)) (map (λ a. x ∷ a) (assignments u n)) _
        ∙ (λ j. under x (assignments u n) j || some v j)
        ∙ spread (same_element R y x) (list_any (same_element R y) v) (list_any (same_assignment R b) (assignments u n)) where
          spread : (p q r : Bool) → ((p && r) || (q && r)) ≡ ((p || q) && r)
          spread true true true = refl
          spread true true false = refl
          spread true false true = refl
          spread true false false = refl
          spread false q r = refl

  -- ---- assignments differ

  distinct-append : (xs ys : List (List A)) → IsDistinct (same_assignment R) xs → IsDistinct (same_assignment R) ys → AllByRecursion (λ x. AllByRecursion (λ y. same_assignment R x y ≡ false) ys) xs → IsDistinct (same_assignment R) (xs ++ ys)
  distinct-append [] ys dx dy apart = dy
  distinct-append (x ∷ xs) ys dx dy apart =
      IsDistinct-cons (same_assignment R) x (xs ++ ys) (both xs (IsDistinct-head (same_assignment R) x xs dx)) (distinct-append xs ys (IsDistinct-tail (same_assignment R) x xs dx) dy apart.1) where
        both : (zs : List (List A)) → AllByRecursion (λ y. same_assignment R x y ≡ false) zs → AllByRecursion (λ y. same_assignment R x y ≡ false) (zs ++ ys)
        both [] all = apart.0
        both (z ∷ zs) all = (all.0, both zs all.1)

  distinct-under : (x : A) (ts : List (List A)) → IsDistinct (same_assignment R) ts → IsDistinct (same_assignment R) (map (λ a. x ∷ a) ts)
  unfolding IsDistinct
  distinct-under x [] d = tt
  distinct-under x (t ∷ ts) d = (heads ts d.0, distinct-under x ts d.1) where
    heads : (us : List (List A)) → AllByRecursion (λ u. same_assignment R t u ≡ false) us → AllByRecursion (λ u. same_assignment R (x ∷ t) u ≡ false) (map (λ a. x ∷ a) us)
    heads [] all = tt
    heads (u ∷ us) all = (tied-cons R x x t u ∙ (λ j. exact_elements.itself x j && all.0 j), heads us all.1)

  pub distinct-assignments : (u : List A) (n : ℕ) → IsDistinct (same_element R) u → IsDistinct (same_assignment R) (assignments u n)
  unfolding IsDistinct
  distinct-assignments u zero d = (tt, tt)
  distinct-assignments u (suc n) d = blocks (distinct-assignments u n d) u d where
    T : List (List A)
    T = assignments u n

    head_apart : (x y : A) (a : List A) (ts : List (List A)) → same_element R x y ≡ false → AllByRecursion (λ t. same_assignment R (x ∷ a) t ≡ false) (map (λ b. y ∷ b) ts)
    head_apart x y a [] e = tt
    head_apart x y a (t ∷ ts) e = (tied-cons R x y a t ∙ ap (λ b. b && same_assignment R a t) e, head_apart x y a ts e)

    join : (P : List A → Type 0) (xs ys : List (List A)) → AllByRecursion P xs → AllByRecursion P ys → AllByRecursion P (xs ++ ys)
    join P [] ys p q = q
    join P (x ∷ xs) ys p q = (p.0, join P xs ys p.1 q)

    later_apart : (x : A) (a : List A) (v : List A) → AllByRecursion (λ y. same_element R x y ≡ false) v → AllByRecursion (λ t. same_assignment R (x ∷ a) t ≡ false) (flat_map (λ y. map (λ b. y ∷ b) T) v)
    later_apart x a [] all = tt
    later_apart x a (y ∷ v) all = join (λ t. same_assignment R (x ∷ a) t ≡ false) (map (λ b. y ∷ b) T) _ (head_apart x y a T all.0) (later_apart x a v all.1)

    each_apart : (x : A) (v : List A) (ts : List (List A)) → AllByRecursion (λ y. same_element R x y ≡ false) v → AllByRecursion (λ s. AllByRecursion (λ t. same_assignment R s t ≡ false) (flat_map (λ y. map (λ b. y ∷ b) T) v)) (map (λ a. x ∷ a) ts)
    each_apart x v [] all = tt
    each_apart x v (t ∷ ts) all = (later_apart x t v all, each_apart x v ts all)

    blocks : IsDistinct (same_assignment R) T → (v : List A) → IsDistinct (same_element R) v → IsDistinct (same_assignment R) (flat_map (λ x. map (λ a. x ∷ a) T) v)
    blocks behind [] dv = tt
    blocks behind (x ∷ v) dv = distinct-append (map (λ a. x ∷ a) T) _ (distinct-under x T behind) (blocks behind v dv.1) (each_apart x v T dv.0)

  -- ---- solutions

  pub any-solutions : (u : List A) (n : ℕ) (rests : List (Rest R)) (a : List A) → list_any (same_assignment R a) (solutions R u n rests) ≡ (is_assignment R u n a && is_solution R rests a)
  any-solutions u n rests a = any-filter exact_assignments (is_solution R rests) a (assignments u n) ∙ ap (λ b. b && is_solution R rests a) (any-assignments u n a)

  pub distinct-solutions : (u : List A) (n : ℕ) (rests : List (Rest R)) → IsDistinct (same_element R) u → IsDistinct (same_assignment R) (solutions R u n rests)
  distinct-solutions u n rests d = distinct-filter exact_assignments (is_solution R rests) (assignments u n) (distinct-assignments u n d)

  -- what holds of each element of an image holds of the element of each of its labels
  pub image-at : (P : A → Type 0) (a : List A) (ls : List ℕ) (l : ℕ) (x : A) → AllByRecursion P (image a ls) → list_any (nat_eq l) ls ≡ true → at l a ≡ Some x → P x
  image-at P a [] l x all e at_l = absurd (let f : ⊥ = cc in f)
  image-at P a (m ∷ ls) l x all e at_l = or_cases (nat_eq l m) (list_any (nat_eq l) ls) e (P x)
      (λ here.
      let is : l ≡ m = grind (arith, nat_tests) in
      first (at m a) (ap (λ i. at i a) (sym is) ∙ at_l) all)
      (λ later. rest (at m a) all (λ all. image-at P a ls l x all later at_l)) where
        first : (v : Option A) → v ≡ Some x → AllByRecursion P (cons_option v (image a ls)) → P x
        first None is all = absurd (let f : ⊥ = cc in f)
        first (Some y) is all = let same : y ≡ x = cc in subst P same all.0

        rest : (v : Option A) → AllByRecursion P (cons_option v (image a ls)) → (AllByRecursion P (image a ls) → P x) → P x
        rest None all k = k all
        rest (Some y) all k = k all.1

  -- the element of a label in a solution is one of the patterns' tuples
  solution-within : (P : A → Type 0) (rests : List (Rest R)) (a : List A) (l : ℕ) (x : A) → AllByRecursion (λ r. (t : List A) → has r.tuples t ≡ true → AllByRecursion P t) rests → is_solution R rests a ≡ true → list_any (λ r. list_any (nat_eq l) r.labels) rests ≡ true → at l a ≡ Some x → P x
  solution-within P [] a l x whole s e at_l = absurd (let f : ⊥ = cc in f)
  solution-within P (r ∷ rests) a l x whole s e at_l =
      let two = and_both (has r.tuples (image a r.labels)) (is_solution R rests a) s in
      or_cases (list_any (nat_eq l) r.labels) (list_any (λ r. list_any (nat_eq l) r.labels) rests) e (P x)
      (λ here. image-at P a r.labels l x (whole.0 (image a r.labels) two.0) here at_l)
      (λ later. solution-within P rests a l x whole.1 two.1 later at_l)

  assigned-within : (v : List A) (n : ℕ) (u a : List A) → is_assignment R u n a ≡ true → ((l : ℕ) (x : A) → l < n → at l a ≡ Some x → list_any (same_element R x) v ≡ true) → is_assignment R v n a ≡ true
  assigned-within v zero u [] is each = refl
  assigned-within v zero u (x ∷ a) is each = absurd (let f : ⊥ = cc in f)
  assigned-within v (suc n) u [] is each = absurd (let f : ⊥ = cc in f)
  assigned-within v (suc n) u (x ∷ a) is each =
      let two = and_both (list_any (same_element R x) u) (is_assignment R u n a) is in
      (λ j. each 0 x (omega arith) refl j && assigned-within v n u a two.1 (λ l y lt e. each (suc l) y (omega (arith, lt)) e) j)

  other_universe : (u v : List A) (n : ℕ) (rests : List (Rest R)) → IsUniverse R v rests → HaveLabels R n rests → (a : List A) → (is_assignment R u n a && is_solution R rests a) ≡ true → (is_assignment R v n a && is_solution R rests a) ≡ true
  other_universe u v n rests whole labels a e =
      let two = and_both (is_assignment R u n a) (is_solution R rests a) e in
      (λ j. assigned-within v n u a two.0 (λ l x lt at_l. solution-within (λ y. list_any (same_element R y) v ≡ true) rests a l x whole.whole two.1 (labels l lt) at_l) j && two.1 j)

  -- which elements are gone through makes no difference
  pub universes_alike : (u v : List A) (n : ℕ) (rests : List (Rest R)) → IsUniverse R u rests → IsUniverse R v rests → HaveLabels R n rests → IsPermutation (solutions R u n rests) (solutions R v n rests)
  universes_alike u v n rests of_u of_v labels = same_members exact_assignments (solutions R u n rests) (solutions R v n rests)
      (λ a. any-solutions u n rests a ∙ same_test _ _ (other_universe u v n rests of_v labels a) (other_universe v u n rests of_u labels a) ∙ sym (any-solutions v n rests a))
      (distinct-solutions u n rests of_u.distinct) (distinct-solutions v n rests of_v.distinct)

  pub rows_alike : (u v : List A) (n : ℕ) (rests : List (Rest R)) (columns : List (Option ℕ)) → IsUniverse R u rests → IsUniverse R v rests → HaveLabels R n rests → IsPermutation (all_rows R u n rests columns) (all_rows R v n rests columns)
  rows_alike u v n rests columns of_u of_v labels = IsPermutation-map (row_of columns) (solutions R u n rests) (solutions R v n rests) (universes_alike u v n rests of_u of_v labels)

module _ {A : Type 0} {R : A → A → Ordering} where
  pub solution-all : (rests : List (Rest R)) (a : List A) → is_solution R rests a ≡ true → AllByRecursion (λ r. has r.tuples (image a r.labels) ≡ true) rests
  solution-all [] a s = tt
  solution-all (r ∷ rests) a s = let two = and_both (has r.tuples (image a r.labels)) (is_solution R rests a) s in (two.0, solution-all rests a two.1)

  pub all-solution : (rests : List (Rest R)) (a : List A) → AllByRecursion (λ r. has r.tuples (image a r.labels) ≡ true) rests → is_solution R rests a ≡ true
  all-solution [] a all = refl
  all-solution (r ∷ rests) a all = (λ j. all.0 j && all-solution rests a all.1 j)
