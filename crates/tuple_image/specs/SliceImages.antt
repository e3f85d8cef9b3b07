-- The slices at a position of a set that is read, and how many keys have each.
use Rattle.std.specs.Prelude.{◌≡◌, ℕ, ◌&&◌, Bool, true, false, List, refl}
use Rattle.std.proofs.Common.{sym, ◌∙◌, ap}
use Rattle.std.specs.Ordering.{eq_by_cmp}
use Rattle.std.specs.declared.cmp.Ordering.{Ordering}
use Rattle.std.specs.Cmp.{IsTotalOrder}
use Rattle.std.specs.FinSet.{IsAntisymmetric, FinSet}
use Rattle.std.specs.FinSet as set
use Rattle.hypertrie_model.specs.Sets.{TupleSet, has}
use Rattle.hypertrie_model.specs.SetLaws.{same_test, and_both, tied-is, tied-itself}
use Rattle.hypertrie_model.specs.Slices.{keys, slice}
use Rattle.hypertrie_model.specs.Members.{contains-kept}
use Rattle.hypertrie_model.specs.Shapes.{set_cmp, SetOfSets, slices, times}
use Rattle.hypertrie_model.specs.ShapeLaws.{sets_total, sets_exact, has-slices, slices-has}
use Rattle.set_image.specs.Images.{image, IsOneToOneOn}
use Rattle.set_image.specs.ImageLaws.{in_image, image_in, is_image, image-retain}
use Rattle.set_image.specs.OneToOneLaws.{len-image}
use Rattle.tuple_image.specs.TupleImages.{tuple_image, IsOver, IsOneToOneWhere}
use Rattle.tuple_image.specs.TupleLaws.{keys-tuple_image, keys-known, over-slice, slice-tuple_image, same_tuple_images}

-- every set of the set is over the known elements
abbrev pub AreOver : {A : Type 0} {Q : List A → List A → Ordering} {C : set.FinSet Q → set.FinSet Q → Ordering} → (A → Bool) → set.FinSet C → Type 0
AreOver known sets = (S : _) → set.contains sets S ≡ true → IsOver known S

module _ {K : Type 0} {R : K → K → Ordering} (o : IsTotalOrder R) (exact : IsAntisymmetric R) where
  -- tests that agree on the members keep the same
  pub retain-same : (H : FinSet R) (p q : K → Bool) → ((x : K) → set.contains H x ≡ true → p x ≡ q x) → set.retain H p ≡ set.retain H q
  retain-same H p q same = set.same_set o exact (set.retain H p) (set.retain H q) (λ x.
      contains-kept o exact H p x ∙ kept x (set.contains H x) (same x) ∙ sym (contains-kept o exact H q x)) where
        kept : (x : K) (b : Bool) → (b ≡ true → p x ≡ q x) → (b && p x) ≡ (b && q x)
        kept x b same = elim b as (λ b. (b ≡ true → p x ≡ q x) → (b && p x) ≡ (b && q x)) [ true ↦ λ same. same refl | false ↦ λ _. refl ] same

module _ {A B : Type 0} {R : A → A → Ordering} {P : B → B → Ordering} (o : IsTotalOrder R) (exact : IsAntisymmetric R) (op : IsTotalOrder P) (exact_p : IsAntisymmetric P) (f : A → B) (known : A → Bool) (one : IsOneToOneWhere known f) where
  -- the sets of a set of sets, each read
  pub over-slices : (H : TupleSet R) (i : ℕ) → IsOver known H → AreOver known (slices R H i)
  over-slices H i over S e t there =
      let s = has-slices o exact H i S e in
      over-slice o exact op exact_p f known one H i s.key over t (ap (λ T. has T t) s.is ∙ there)

  -- the reading is one to one on sets over the known elements
  pub sets_one_to_one : (sets : SetOfSets R) → AreOver known sets → IsOneToOneOn (tuple_image P f) sets
  sets_one_to_one sets over S there T other same = same_tuple_images o exact op exact_p f known one T S (over T other) (over S there) same

  pub slices-tuple_image : (H : TupleSet R) (i : ℕ) → IsOver known H → slices P (tuple_image P f H) i ≡ image (set_cmp P) (tuple_image P f) (slices R H i)
  slices-tuple_image H i over = sym (is_image (sets_total o exact) (sets_exact o exact) (sets_total op exact_p) (sets_exact op exact_p) (tuple_image P f) (slices R H i) (slices P (tuple_image P f H) i)
      (λ T e.
      let s = has-slices op exact_p (tuple_image P f H) i T e in
      let v = in_image o exact op exact_p f (keys R H i) s.key (ap (λ S. set.contains S s.key) (sym (keys-tuple_image o exact op exact_p f H i)) ∙ s.there) in
      record {
        member = slice R H i v.member;
        there = slices-has o exact H i (slice R H i v.member) (record { key = v.member; there = v.there; is = refl });
        is = sym (slice-tuple_image o exact op exact_p f known one H i v.member over (keys-known o exact op exact_p f known one H i v.member over v.there)) ∙ ap (slice P (tuple_image P f H) i) v.is ∙ s.is;
      })
      (λ S e.
      let s = has-slices o exact H i S e in
      slices-has op exact_p (tuple_image P f H) i (tuple_image P f S) (record {
        key = f s.key;
        there = ap (λ K. set.contains K (f s.key)) (keys-tuple_image o exact op exact_p f H i) ∙ image_in o exact op exact_p f (keys R H i) s.key s.there;
        is = slice-tuple_image o exact op exact_p f known one H i s.key over (keys-known o exact op exact_p f known one H i s.key over s.there) ∙ ap (tuple_image P f) s.is;
      })))

  -- as many keys have the set for their slice
  pub times-tuple_image : (H : TupleSet R) (i : ℕ) (S : TupleSet R) → IsOver known H → IsOver known S → times P (tuple_image P f H) i (tuple_image P f S) ≡ times R H i S
  unfolding times
  times-tuple_image H i S over over_set =
      let passes : B → Bool = λ y. eq_by_cmp (set_cmp P) (slice P (tuple_image P f H) i y) (tuple_image P f S) in
      let kept : FinSet R = set.retain (keys R H i) (λ x. passes (f x)) in
      ap (λ K. set.len (set.retain K passes)) (keys-tuple_image o exact op exact_p f H i)
      ∙ ap set.len (sym (image-retain o exact op exact_p f (keys R H i) passes))
      ∙ len-image o exact op exact_p f kept (one_to_one_kept passes)
      ∙ ap set.len (retain-same o exact (keys R H i) (λ x. passes (f x)) (λ x. eq_by_cmp (set_cmp R) (slice R H i x) S) agree) where
        one_to_one_kept : (p : B → Bool) → IsOneToOneOn f (set.retain (keys R H i) (λ x. p (f x)))
        one_to_one_kept p x there y other same = one y x (is_known y other) (is_known x there) same where
          is_known : (z : A) → set.contains (set.retain (keys R H i) (λ x. p (f x))) z ≡ true → known z ≡ true
          is_known z e = keys-known o exact op exact_p f known one H i z over (and_both (set.contains (keys R H i) z) (p (f z)) (sym (contains-kept o exact (keys R H i) (λ x. p (f x)) z) ∙ e)).0

        agree : (x : A) → set.contains (keys R H i) x ≡ true → eq_by_cmp (set_cmp P) (slice P (tuple_image P f H) i (f x)) (tuple_image P f S) ≡ eq_by_cmp (set_cmp R) (slice R H i x) S
        agree x e =
            let read = slice-tuple_image o exact op exact_p f known one H i x over (keys-known o exact op exact_p f known one H i x over e) in
            ap (λ T. eq_by_cmp (set_cmp P) T (tuple_image P f S)) read
            ∙ same_test _ _
            (λ tied.
            let same = same_tuple_images o exact op exact_p f known one (slice R H i x) S (over-slice o exact op exact_p f known one H i x over) over_set (tied-is (sets_exact op exact_p) (tuple_image P f (slice R H i x)) (tuple_image P f S) tied) in
            ap (λ T. eq_by_cmp (set_cmp R) T S) same ∙ tied-itself (sets_total o exact) S)
            (λ tied.
            ap (λ T. eq_by_cmp (set_cmp P) (tuple_image P f T) (tuple_image P f S)) (tied-is (sets_exact o exact) (slice R H i x) S tied) ∙ tied-itself (sets_total op exact_p) (tuple_image P f S))
