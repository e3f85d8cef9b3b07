-- A slice has no more tuples than the set, and neither has a part of it.
use Rattle.std.specs.Prelude.{◌≡◌, ℕ, zero, suc, ◌+◌, ◌<◌, ◌≤◌, ◌||◌, Bool, true, false, cond, List, [], ◌∷◌, length, refl}
use Rattle.std.proofs.Common.{sym, ◌∙◌, ap, arith}
use Rattle.std.proofs.lemmas.Cmp.{lists_total}
use Rattle.std.specs.List.{insert, remove}
use Rattle.std.specs.Ordering.{eq_by_cmp}
use Rattle.std.specs.declared.cmp.Ordering.{Ordering}
use Rattle.std.specs.Cmp.{IsTotalOrder}
use Rattle.std.specs.Cmp.Lexicographic.{slice_cmp}
use Rattle.std.specs.FinSet.{IsAntisymmetric, slice_cmp-IsAntisymmetric}
use Rattle.std.specs.FinSet as set
use native.Mathlib.Decide.{dec_le}
use Rattle.hypertrie_model.specs.Sets.{TupleSet, has, empty, single}
use Rattle.hypertrie_model.specs.SetLaws.{same_sets, or_cases, or_right, tied-itself, tied-is, has-single, len-single}
use Rattle.hypertrie_model.specs.SetInduction.{set_ind}
use Rattle.hypertrie_model.specs.Slices.{slice}
use Rattle.hypertrie_model.specs.SliceLaws.{has-slice, has-slice_short}
use Rattle.hypertrie_model.specs.Changes.{after}
use Rattle.hypertrie_model.specs.ChangeLaws.{has-after_in, shrunk_grown, len-shrunk}

remove-insert : {A : Type 0} (u : List A) (i : ℕ) (k : A) → i ≤ length u → remove (insert u i k) i ≡ u
remove-insert u zero k h = refl
remove-insert [] (suc i) k h = absurd (omega arith)
remove-insert (x ∷ u) (suc i) k h = ap (λ xs. x ∷ xs) (remove-insert u i k (omega arith))

module _ {A : Type 0} {R : A → A → Ordering} (o : IsTotalOrder R) (exact : IsAntisymmetric R) where
  -- a part of a set is no larger
  pub len-within : (H K : TupleSet R) → ((t : List A) → has K t ≡ true → has H t ≡ true) → set.len K ≤ set.len H
  len-within H K inside = let n = len-shrunk o exact H K inside in omega arith

  -- a set of one tuple is that tuple's
  pub one_is : (H : TupleSet R) (t : List A) → set.len H ≡ 1 → has H t ≡ true → H ≡ single R t
  one_is H t one there =
      let inside : (q : List A) → has (single R t) q ≡ true → has H q ≡ true = λ q e. ap (has H) (tied-is (slice_cmp-IsAntisymmetric exact) q t (sym (has-single o exact t q) ∙ e)) ∙ there in
      let n = len-shrunk o exact H (single R t) inside in
      let m = len-single o exact t in
      let none : after false H (single R t) ≡ empty R = set.empty_of_len (after false H (single R t)) (omega arith) in
      sym (shrunk_grown o exact H (single R t) inside)
      ∙ ap (λ S. after true S (single R t)) none
      ∙ same_sets o exact _ _ (λ q. has-after_in o exact (empty R) (single R t) q ∙ ap (λ b. b || has (single R t) q) (set.contains-empty (slice_cmp R) q))

  -- a union is no smaller than each of its parts
  pub len-union_parts : (H K : TupleSet R) → (set.len H ≤ set.len (set.union H K)) × (set.len K ≤ set.len (set.union H K))
  len-union_parts H K = (
    len-within (set.union H K) H (λ t there. set.contains-union (lists_total o) H K t ∙ ap (λ b. b || has K t) there),
    len-within (set.union H K) K (λ t there. set.contains-union (lists_total o) H K t ∙ or_right (has H t) (has K t) there),
  )

  by_length : (P : Type 0) (i : ℕ) (u : List A) → (i ≤ length u → P) → (length u < i → P) → P
  by_length P i u within short = elim (dec_le i (length u)) as (λ _. P) [ yes le ↦ within le | no gt ↦ short (omega arith) ]

  -- the slices of no tuple
  pub slice-empty : (i : ℕ) (k : A) → slice R (empty R) i k ≡ empty R
  slice-empty i k = same_sets o exact _ _ (λ u. by_length _ i u
      (λ le. has-slice o exact (empty R) i k u le ∙ set.contains-empty (slice_cmp R) (insert u i k) ∙ sym (set.contains-empty (slice_cmp R) u))
      (λ gt. has-slice_short o exact (empty R) i k u gt ∙ sym (set.contains-empty (slice_cmp R) u)))

  module _ (H : TupleSet R) (t : List A) (i : ℕ) (k : A) where
    -- one tuple more puts at most the rest of it into a slice
    slice-more : (u : List A) → has (slice R (set.insert H t) i k) u ≡ true → has (set.insert (slice R H i k) (remove t i)) u ≡ true
    slice-more u there = by_length _ i u
        (λ le. set.contains-insert (lists_total o) (slice R H i k) (remove t i) u ∙ or_cases (eq_by_cmp (slice_cmp R) (insert u i k) t) (has H (insert u i k)) (sym (has-slice o exact (set.insert H t) i k u le ∙ set.contains-insert (lists_total o) H t (insert u i k)) ∙ there) _
        (λ here. let is : u ≡ remove t i = sym (remove-insert u i k le) ∙ ap (λ q. remove q i) (tied-is (slice_cmp-IsAntisymmetric exact) (insert u i k) t here) in
        ap (λ q. eq_by_cmp (slice_cmp R) u q || has (slice R H i k) u) (sym is) ∙ ap (λ b. b || has (slice R H i k) u) (tied-itself (lists_total o) u))
        (λ rest. or_right (eq_by_cmp (slice_cmp R) u (remove t i)) (has (slice R H i k) u) (has-slice o exact H i k u le ∙ rest)))
        (λ gt. let f : false ≡ true = sym (has-slice_short o exact (set.insert H t) i k u gt) ∙ there in absurd (let n : ⊥ = cc in n))

    len-slice_more : set.len (slice R (set.insert H t) i k) ≤ set.len (slice R H i k) + 1
    len-slice_more = omega (arith, len-within (set.insert (slice R H i k) (remove t i)) (slice R (set.insert H t) i k) slice-more, by (has (slice R H i k) (remove t i)) (set.len-insert (lists_total o) (slice R H i k) (remove t i))) where
      by : (b : Bool) → set.len (set.insert (slice R H i k) (remove t i)) ≡ cond b (set.len (slice R H i k)) (set.len (slice R H i k) + 1) → set.len (set.insert (slice R H i k) (remove t i)) ≤ set.len (slice R H i k) + 1
      by true e = omega (arith, e)
      by false e = omega (arith, e)

  -- a slice has no more tuples than the set
  pub len-slice : (H : TupleSet R) (i : ℕ) (k : A) → set.len (slice R H i k) ≤ set.len H
  len-slice H i k = set_ind (lists_total o) (slice_cmp-IsAntisymmetric exact) (λ S. set.len (slice R S i k) ≤ set.len S)
      (omega (arith, ap set.len (slice-empty i k), set.len-empty (slice_cmp R)))
      (λ S t new less.
      let more : set.len (set.insert S t) ≡ set.len S + 1 = set.len-insert (lists_total o) S t ∙ ap (λ b. cond b (set.len S) (set.len S + 1)) new in
      omega (arith, less, len-slice_more S t i k))
      H
