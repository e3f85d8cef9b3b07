-- A slice at a mask is a slice at one position after another, from the first position on.
use Rattle.std.specs.Prelude.{◌≡◌, ℕ, suc, ◌/◌, ◌%◌, ◌≤◌, ◌&&◌, true, false, cond, nat_eq, List, [], ◌∷◌, length, refl}
use Rattle.std.proofs.Common.{sym, ◌∙◌, ap, subst, arith}
use Rattle.std.specs.Ordering.{eq_by_cmp}
use Rattle.std.specs.declared.cmp.Ordering.{Ordering}
use Rattle.std.specs.Cmp.{IsTotalOrder}
use Rattle.std.specs.FinSet.{IsAntisymmetric}
use Rattle.hypertrie_model.specs.Sets.{TupleSet, has, HasDepth}
use Rattle.hypertrie_model.specs.SetLaws.{same_sets, same_test, tied-itself, tied-is, and_both}
use Rattle.hypertrie_model.specs.Slices.{is_at_mask, without_mask, slice, slice_at_mask}
use Rattle.hypertrie_model.specs.SliceLaws.{IsLeft, has-slice, has-slice_at_mask, slice_at_mask-has}

module _ {A : Type 0} {R : A → A → Ordering} (o : IsTotalOrder R) (exact : IsAntisymmetric R) where
  at_no_mask : (k : A) (t : List A) → is_at_mask R 0 k t ≡ true
  at_no_mask k [] = refl
  at_no_mask k (x ∷ t) = at_no_mask k t

  without_no_mask : (t : List A) → without_mask 0 t ≡ t
  without_no_mask [] = refl
  without_no_mask (x ∷ t) = ap (λ u. x ∷ u) (without_no_mask t)

  -- a mask of no position leaves the set
  pub slice_at_no_mask : (H : TupleSet R) (k : A) → slice_at_mask R H 0 k ≡ H
  slice_at_no_mask H k = same_sets o exact _ _ (λ u. same_test _ _
      (λ e. let l = has-slice_at_mask o exact H 0 k u e in ap (has H) (sym (sym (without_no_mask l.tuple) ∙ l.left)) ∙ l.there)
      (λ e. subst (λ t. has (slice_at_mask R H 0 k) t ≡ true) (without_no_mask u) (slice_at_mask-has o exact H 0 k u e (at_no_mask k u))))

  -- the set behind a key at the first position
  rest_there : (H : TupleSet R) (x : A) (t : List A) → has (slice R H 0 x) t ≡ has H (x ∷ t)
  rest_there H x t = has-slice o exact H 0 x t (omega arith)

  module _ (H : TupleSet R) (d : ℕ) (deep : HasDepth (suc d) H) (m : ℕ) (k : A) where
    no_nil : (P : Type 0) → has H [] ≡ true → P
    no_nil P e = absurd (let n = deep [] e in omega arith)

    -- the mask names the first position
    pub slice_at_mask-first : nat_eq (m % 2) 1 ≡ true → slice_at_mask R H m k ≡ slice_at_mask R (slice R H 0 k) (m / 2) k
    slice_at_mask-first odd = same_sets o exact _ _ (λ u. same_test _ _ (λ e. into u (has-slice_at_mask o exact H m k u e)) (λ e. back u (has-slice_at_mask o exact (slice R H 0 k) (m / 2) k u e))) where
      into : (u : List A) → IsLeft o exact H m k u → has (slice_at_mask R (slice R H 0 k) (m / 2) k) u ≡ true
      into u l = by l.tuple l.there l.fixed l.left where
        by : (t : List A) → has H t ≡ true → is_at_mask R m k t ≡ true → without_mask m t ≡ u → has (slice_at_mask R (slice R H 0 k) (m / 2) k) u ≡ true
        by [] there fixed left = no_nil _ there
        by (x ∷ t) there fixed left =
            let two = and_both (cond (nat_eq (m % 2) 1) (eq_by_cmp R k x) true) (is_at_mask R (m / 2) k t) fixed in
            let is : k ≡ x = tied-is exact k x (sym (ap (λ b. cond b (eq_by_cmp R k x) true) odd) ∙ two.0) in
            let rest : without_mask (m / 2) t ≡ u = sym (ap (λ b. cond b (without_mask (m / 2) t) (x ∷ without_mask (m / 2) t)) odd) ∙ left in
            subst (λ v. has (slice_at_mask R (slice R H 0 k) (m / 2) k) v ≡ true) rest
            (slice_at_mask-has o exact (slice R H 0 k) (m / 2) k t (rest_there H k t ∙ ap (λ y. has H (y ∷ t)) is ∙ there) two.1)

      back : (u : List A) → IsLeft o exact (slice R H 0 k) (m / 2) k u → has (slice_at_mask R H m k) u ≡ true
      back u l =
          let t = l.tuple in
          let fixed : is_at_mask R m k (k ∷ t) ≡ true = (λ i. (ap (λ b. cond b (eq_by_cmp R k k) true) odd ∙ tied-itself o k) i && l.fixed i) in
          let left : without_mask m (k ∷ t) ≡ u = ap (λ b. cond b (without_mask (m / 2) t) (k ∷ without_mask (m / 2) t)) odd ∙ l.left in
          subst (λ v. has (slice_at_mask R H m k) v ≡ true) left (slice_at_mask-has o exact H m k (k ∷ t) (sym (rest_there H k t) ∙ l.there) fixed)

    -- the mask doesn't: each first key stays, before the slice of what is behind it
    pub slice_at_mask-later : nat_eq (m % 2) 1 ≡ false → (x : A) (u : List A) → has (slice_at_mask R H m k) (x ∷ u) ≡ has (slice_at_mask R (slice R H 0 x) (m / 2) k) u
    slice_at_mask-later even x u = same_test _ _ (λ e. into (has-slice_at_mask o exact H m k (x ∷ u) e)) (λ e. back (has-slice_at_mask o exact (slice R H 0 x) (m / 2) k u e)) where
      head : (a b : A) (s t : List A) → a ∷ s ≡ b ∷ t → a ≡ b
      head a b s t e = cc

      tail : (a b : A) (s t : List A) → a ∷ s ≡ b ∷ t → s ≡ t
      tail a b s t e = cc

      into : IsLeft o exact H m k (x ∷ u) → has (slice_at_mask R (slice R H 0 x) (m / 2) k) u ≡ true
      into l = by l.tuple l.there l.fixed l.left where
        by : (t : List A) → has H t ≡ true → is_at_mask R m k t ≡ true → without_mask m t ≡ x ∷ u → has (slice_at_mask R (slice R H 0 x) (m / 2) k) u ≡ true
        by [] there fixed left = no_nil _ there
        by (y ∷ t) there fixed left =
            let two = and_both (cond (nat_eq (m % 2) 1) (eq_by_cmp R k y) true) (is_at_mask R (m / 2) k t) fixed in
            let split : y ∷ without_mask (m / 2) t ≡ x ∷ u = sym (ap (λ b. cond b (without_mask (m / 2) t) (y ∷ without_mask (m / 2) t)) even) ∙ left in
            let is = head y x (without_mask (m / 2) t) u split in
            subst (λ v. has (slice_at_mask R (slice R H 0 x) (m / 2) k) v ≡ true) (tail y x (without_mask (m / 2) t) u split)
            (slice_at_mask-has o exact (slice R H 0 x) (m / 2) k t (rest_there H x t ∙ ap (λ z. has H (z ∷ t)) (sym is) ∙ there) two.1)

      back : IsLeft o exact (slice R H 0 x) (m / 2) k u → has (slice_at_mask R H m k) (x ∷ u) ≡ true
      back l =
          let t = l.tuple in
          let fixed : is_at_mask R m k (x ∷ t) ≡ true = (λ i. ap (λ b. cond b (eq_by_cmp R k x) true) even i && l.fixed i) in
          let left : without_mask m (x ∷ t) ≡ x ∷ u = ap (λ b. cond b (without_mask (m / 2) t) (x ∷ without_mask (m / 2) t)) even ∙ ap (λ v. x ∷ v) l.left in
          subst (λ v. has (slice_at_mask R H m k) v ≡ true) left (slice_at_mask-has o exact H m k (x ∷ t) (sym (rest_there H x t) ∙ l.there) fixed)

  -- the same of a slice at a later position
  pub slice-later : (H : TupleSet R) (i : ℕ) (k x : A) (u : List A) → i ≤ length u → has (slice R H (suc i) k) (x ∷ u) ≡ has (slice R (slice R H 0 x) i k) u
  slice-later H i k x u le =
      has-slice o exact H (suc i) k (x ∷ u) (omega arith)
      ∙ sym (has-slice o exact (slice R H 0 x) i k u le ∙ rest_there H x _)
