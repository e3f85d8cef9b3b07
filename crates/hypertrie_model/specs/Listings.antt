-- Sets of tuples given by lists: in rising order, in another order, and with one position moved to the front.
use Rattle.std.specs.Prelude.{◌≡◌, ℕ, zero, suc, ◌+◌, ◌<◌, ◌≤◌, ◌||◌, Bool, false, cond, List, [], ◌∷◌, ◌++◌, length, map, refl, Some, bit_xor}
use Rattle.std.proofs.Common.{sym, ◌∙◌, ap, arith}
use Rattle.std.proofs.lemmas.Cmp.{lists_total, tied_itself}
use Rattle.std.proofs.lemmas.List.Edits.{length-remove}
use Rattle.std.proofs.lemmas.List.Elements.{All-from_recursion, recursion_from_All, All-weaker}
use Rattle.std.proofs.lemmas.List.Folds.{list_any-append, list_any_none}
use Rattle.std.proofs.lemmas.List.Sorted.{list_any-IsPermutation}
use Rattle.std.proofs.lemmas.Map.Keys.{sorted_head, sorted_tail}
use Rattle.std.proofs.lemmas.Nat.{xor_comm}
use Rattle.std.specs.List.{All, AllByRecursion, list_any, cons_option, insert, remove}
use Rattle.std.specs.List.Sorted.{IsStrictlySortedBy, IsPermutation}
use Rattle.std.specs.Ordering.{eq_by_cmp, is_eq}
use Rattle.std.specs.declared.cmp.Ordering.{Ordering}
use Rattle.std.specs.declared.cmp.Ordering.TheVariants.{Less, Equal}
use Rattle.std.specs.Cmp.{IsTotalOrder}
use Rattle.std.specs.Cmp.Lexicographic.{slice_cmp}
use Rattle.std.specs.FinSet.{IsAntisymmetric, slice_cmp-IsAntisymmetric}
use Rattle.std.specs.FinSet as set
use native.Mathlib.Decide.{dec_le}
use Rattle.hypertrie_model.specs.Sets.{TupleSet, has}
use Rattle.hypertrie_model.specs.Slices.{at, slice}
use Rattle.hypertrie_model.specs.SetLaws.{same_sets, same_test, tied-itself, tied-is, tied-apart}
use Rattle.hypertrie_model.specs.SliceLaws.{has-slice, has-slice_short}
use Rattle.hypertrie_model.specs.Folds.{xor_over}
use Rattle.hypertrie_model.specs.FoldLaws.{xor_over-empty, xor_over-insert}

-- the set of the tuples of a list
abbrev pub set_of : {A : Type 0} (R : A → A → Ordering) → List (List A) → TupleSet R
set_of R ts = set.from_list ts

-- the tuple with the element at a position moved to the front
abbrev pub to_front : {A : Type 0} → ℕ → List A → List A
to_front i t = cons_option (at i t) (remove t i)

-- ---- parts of a list

module _ {X : Type 0} (P : X → Type 0) where
  all_first : (xs ys : List X) → AllByRecursion P (xs ++ ys) → AllByRecursion P xs
  all_first [] ys h = tt
  all_first (x ∷ xs) ys h = (h.0, all_first xs ys h.1)

  all_last : (xs ys : List X) → AllByRecursion P (xs ++ ys) → AllByRecursion P ys
  all_last [] ys h = h
  all_last (x ∷ xs) ys h = all_last xs ys h.1

module _ {K : Type 0} (c : K → K → Ordering) where
  -- the parts of a sorted list are sorted, and the first part is below the rest
  pub sorted_first : (xs ys : List K) → IsStrictlySortedBy c (xs ++ ys) → IsStrictlySortedBy c xs
  unfolding IsStrictlySortedBy
  sorted_first [] ys s = tt
  sorted_first (x ∷ xs) ys s = (all_first (λ y. c x y ≡ Less) xs ys s.0, sorted_first xs ys s.1)

  pub sorted_last : (xs ys : List K) → IsStrictlySortedBy c (xs ++ ys) → IsStrictlySortedBy c ys
  sorted_last [] ys s = s
  sorted_last (x ∷ xs) ys s = sorted_last xs ys (sorted_tail c x (xs ++ ys) s)

  below_middle : (xs : List K) (y : K) (ys : List K) → IsStrictlySortedBy c (xs ++ y ∷ ys) → AllByRecursion (λ x. c x y ≡ Less) xs
  below_middle [] y ys s = tt
  below_middle (x ∷ xs) y ys s = ((all_last (λ z. c x z ≡ Less) xs (y ∷ ys) (sorted_head c x (xs ++ y ∷ ys) s)).0, below_middle xs y ys (sorted_tail c x (xs ++ y ∷ ys) s))

  pub All-below_middle : (xs : List K) (y : K) (ys : List K) → IsStrictlySortedBy c (xs ++ y ∷ ys) → All (λ x. c x y ≡ Less) xs
  All-below_middle xs y ys s = All-from_recursion (λ x. c x y ≡ Less) xs (below_middle xs y ys s)

-- ---- one position moved to the front

module _ {A : Type 0} where
  at-insert : (u : List A) (i : ℕ) (k : A) → i ≤ length u → at i (insert u i k) ≡ Some k
  at-insert [] zero k h = refl
  at-insert (x ∷ u) zero k h = refl
  at-insert [] (suc i) k h = absurd (omega arith)
  at-insert (x ∷ u) (suc i) k h = at-insert u i k (omega arith)

  remove-insert : (u : List A) (i : ℕ) (k : A) → i ≤ length u → remove (insert u i k) i ≡ u
  remove-insert u zero k h = refl
  remove-insert [] (suc i) k h = absurd (omega arith)
  remove-insert (x ∷ u) (suc i) k h = ap (λ xs. x ∷ xs) (remove-insert u i k (omega arith))

  -- a key put in at a position, moved to the front
  pub to_front-insert : (u : List A) (i : ℕ) (k : A) → i ≤ length u → to_front i (insert u i k) ≡ k ∷ u
  to_front-insert u i k h = λ j. cons_option (at-insert u i k h j) (remove-insert u i k h j)

  -- the element at a position, which the tuple without it gets back
  record Split (t : List A) (i : ℕ) : Type 0 where
    element : A
    stands : at i t ≡ Some element
    back : insert (remove t i) i element ≡ t

  split : (t : List A) (i : ℕ) → i < length t → Split t i
  split [] i h = absurd (omega arith)
  split (x ∷ t) zero h = record { element = x; stands = refl; back = refl }
  split (x ∷ t) (suc i) h =
      let rest = split t i (omega arith) in
      record { element = rest.element; stands = rest.stands; back = ap (λ xs. x ∷ xs) rest.back }

  split_front : (t : List A) (i : ℕ) (s : Split t i) → to_front i t ≡ s.element ∷ remove t i
  split_front t i s = ap (λ r. cons_option r (remove t i)) s.stands

module _ {A : Type 0} {R : A → A → Ordering} (o : IsTotalOrder R) (exact : IsAntisymmetric R) where
  abbrev same_tuple : List A → List A → Bool
  same_tuple u t = eq_by_cmp (slice_cmp R) u t

  -- the tuples of the set are those of the list
  pub has-set_of : (ts : List (List A)) (t : List A) → has (set_of R ts) t ≡ list_any (eq_by_cmp (slice_cmp R) t) ts
  has-set_of ts t = set.contains-from_list (lists_total o) ts t

  pub set_of-append : (xs ys : List (List A)) → set_of R (xs ++ ys) ≡ set.union (set_of R xs) (set_of R ys)
  set_of-append xs ys = same_sets o exact _ _ (λ t.
      has-set_of (xs ++ ys) t
      ∙ list_any-append (same_tuple t) xs ys
      ∙ (λ j. sym (has-set_of xs t) j || sym (has-set_of ys t) j)
      ∙ sym (set.contains-union (lists_total o) (set_of R xs) (set_of R ys) t))

  -- the order of the list does not matter
  pub permuted : (xs ys : List (List A)) → IsPermutation xs ys → set_of R xs ≡ set_of R ys
  permuted xs ys moved = same_sets o exact _ _ (λ t. has-set_of xs t ∙ list_any-IsPermutation (same_tuple t) xs ys moved ∙ sym (has-set_of ys t))

  less_apart : (t u : List A) → slice_cmp R t u ≡ Less → same_tuple t u ≡ false
  less_apart t u lt = ap is_eq lt

  less_apart_back : (t u : List A) → slice_cmp R u t ≡ Less → same_tuple t u ≡ false
  less_apart_back t u lt = tied-apart (slice_cmp-IsAntisymmetric exact) t u (λ is. let n : Equal ≡ Less = sym (tied_itself (lists_total o) u) ∙ ap (slice_cmp R u) (sym is) ∙ lt in absurd (let f : ⊥ = cc in f))

  -- as many tuples as the list has, where they rise
  pub len-listed : (ts : List (List A)) → IsStrictlySortedBy (slice_cmp R) ts → set.len (set_of R ts) ≡ length ts
  len-listed [] s = set.len-empty (slice_cmp R)
  len-listed (t ∷ ts) s =
      let above = All-from_recursion (λ u. slice_cmp R t u ≡ Less) ts (sorted_head (slice_cmp R) t ts s) in
      let new : has (set_of R ts) t ≡ false = has-set_of ts t ∙ list_any_none (same_tuple t) ts (All-weaker (λ u. slice_cmp R t u ≡ Less) (λ u. same_tuple t u ≡ false) (less_apart t) ts above) in
      let rest = len-listed ts (sorted_tail (slice_cmp R) t ts s) in
      let more = set.len-insert (lists_total o) (set_of R ts) t ∙ ap (λ b. cond b (set.len (set_of R ts)) (set.len (set_of R ts) + 1)) new in
      omega arith

  -- a tuple of a rising list is not among those before it
  pub strict_push_new : (ts : List (List A)) (t : List A) (us : List (List A)) → IsStrictlySortedBy (slice_cmp R) (ts ++ t ∷ us) → has (set_of R ts) t ≡ false
  strict_push_new ts t us s =
      has-set_of ts t
      ∙ list_any_none (same_tuple t) ts (All-weaker (λ u. slice_cmp R u t ≡ Less) (λ u. same_tuple t u ≡ false) (less_apart_back t) ts (All-below_middle (slice_cmp R) ts t us s))

  -- the exclusive or, tuple after tuple
  pub xor-listed_nil : (f : List A → ℕ) → xor_over (set_of R []) f ≡ 0
  xor-listed_nil f = xor_over-empty (lists_total o) (slice_cmp-IsAntisymmetric exact) f

  pub xor-listed_push : (f : List A → ℕ) (ts : List (List A)) (t : List A) → has (set_of R ts) t ≡ false → xor_over (set_of R (ts ++ t ∷ [])) f ≡ bit_xor (xor_over (set_of R ts) f) (f t)
  xor-listed_push f ts t new =
      ap (λ S. xor_over S f) (set.from_list_push (lists_total o) (slice_cmp-IsAntisymmetric exact) ts t)
      ∙ xor_over-insert (lists_total o) (slice_cmp-IsAntisymmetric exact) (set_of R ts) f t new
      ∙ xor_comm (f t) (xor_over (set_of R ts) f)

  -- ---- one position moved to the front, in each tuple
  module _ (i : ℕ) (k : A) (u : List A) where
    same-to_front : i ≤ length u → (t : List A) → i < length t → same_tuple (k ∷ u) (to_front i t) ≡ same_tuple (insert u i k) t
    same-to_front le t within =
        let s = split t i within in
        let tuples = slice_cmp-IsAntisymmetric exact in
        same_test _ _
        (λ e.
        let is : k ∷ u ≡ s.element ∷ remove t i = tied-is tuples (k ∷ u) (to_front i t) e ∙ split_front t i s in
        let key : k ≡ s.element = cc in
        let left : u ≡ remove t i = cc in
        let whole : insert u i k ≡ t = (λ j. insert (left j) i (key j)) ∙ s.back in
        ap (λ v. same_tuple v t) whole ∙ tied-itself (lists_total o) t)
        (λ e.
        let is : to_front i t ≡ k ∷ u = ap (to_front i) (sym (tied-is tuples (insert u i k) t e)) ∙ to_front-insert u i k le in
        ap (same_tuple (k ∷ u)) is ∙ tied-itself (lists_total o) (k ∷ u))

    any-to_front : i ≤ length u → (ts : List (List A)) → AllByRecursion (λ t. i < length t) ts → list_any (same_tuple (k ∷ u)) (map (to_front i) ts) ≡ list_any (same_tuple (insert u i k)) ts
    any-to_front le [] h = refl
    any-to_front le (t ∷ ts) h = λ j. same-to_front le t h.0 j || any-to_front le ts h.1 j

    apart-to_front : length u < i → (t : List A) → i < length t → same_tuple (k ∷ u) (to_front i t) ≡ false
    apart-to_front short t within =
        let s = split t i within in
        tied-apart (slice_cmp-IsAntisymmetric exact) (k ∷ u) (to_front i t) (λ is.
        let both : k ∷ u ≡ s.element ∷ remove t i = is ∙ split_front t i s in
        let left : u ≡ remove t i = cc in
        let same = ap length left in
        let n = length-remove t i within in
        absurd (omega arith))

    none-to_front : length u < i → (ts : List (List A)) → AllByRecursion (λ t. i < length t) ts → list_any (same_tuple (k ∷ u)) (map (to_front i) ts) ≡ false
    none-to_front short [] h = refl
    none-to_front short (t ∷ ts) h = λ j. apart-to_front short t h.0 j || none-to_front short ts h.1 j

  -- the slice at a position is the slice at the front, where that position was moved to the front
  pub rotated : (ts : List (List A)) (i : ℕ) (k : A) → All (λ t. i < length t) ts → slice R (set_of R (map (to_front i) ts)) 0 k ≡ slice R (set_of R ts) i k
  rotated ts i k all = same_sets o exact _ _ (λ u.
      let long = recursion_from_All (λ t. i < length t) ts all in
      has-slice o exact (set_of R (map (to_front i) ts)) 0 k u (omega arith)
      ∙ has-set_of (map (to_front i) ts) (k ∷ u)
      ∙ elim (dec_le i (length u)) as (λ _. list_any (same_tuple (k ∷ u)) (map (to_front i) ts) ≡ has (slice R (set_of R ts) i k) u) [
        | yes le ↦ any-to_front i k u le ts long ∙ sym (has-slice o exact (set_of R ts) i k u le ∙ has-set_of ts (insert u i k))
        | no gt ↦ none-to_front i k u (omega arith) ts long ∙ sym (has-slice_short o exact (set_of R ts) i k u (omega arith))
      ])
