-- Images under functions that are one to one on a set.
use Rattle.std.specs.Prelude.{◌≡◌, ◌+◌, ◌&&◌, ◌||◌, not, true, false, cond}
use Rattle.std.proofs.Common.{sym, ◌∙◌, ap}
use Rattle.std.specs.Ordering.{eq_by_cmp}
use Rattle.std.specs.declared.cmp.Ordering.{Ordering}
use Rattle.std.specs.Cmp.{IsTotalOrder}
use Rattle.std.specs.FinSet.{FinSet, IsAntisymmetric}
use Rattle.std.specs.FinSet as set
use Rattle.hypertrie_model.specs.SetLaws.{same_test, tied-itself, or_right, and_both}
use Rattle.hypertrie_model.specs.SetInduction.{set_ind}
use Rattle.set_image.specs.Images.{image, IsAloneIn, IsOneToOneOn}
use Rattle.set_image.specs.ImageLaws.{in_image, image_in, is_image, image-empty, image-insert}

module _ {X Y : Type 0} {Q : X → X → Ordering} {P : Y → Y → Ordering} (o : IsTotalOrder Q) (exact : IsAntisymmetric Q) (op : IsTotalOrder P) (exact_p : IsAntisymmetric P) where
  -- the value is in the image exactly where x is in the set
  pub contains-image : (f : X → Y) (H : FinSet Q) (x : X) → IsAloneIn f H x → set.contains (image P f H) (f x) ≡ set.contains H x
  contains-image f H x alone = same_test _ _
      (λ e. let v = in_image o exact op exact_p f H (f x) e in ap (set.contains H) (sym (alone v.member v.there v.is)) ∙ v.there)
      (λ e. image_in o exact op exact_p f H x e)

  -- what is one to one on a set is so on its parts
  pub one_to_one_within : (f : X → Y) (H K : FinSet Q) → ((x : X) → set.contains K x ≡ true → set.contains H x ≡ true) → IsOneToOneOn f H → IsOneToOneOn f K
  one_to_one_within f H K within one x there y other same = one x (within x there) y (within y other) same

  in_left : (H K : FinSet Q) (x : X) → set.contains H x ≡ true → set.contains (set.union H K) x ≡ true
  in_left H K x e = set.contains-union o H K x ∙ ap (λ b. b || set.contains K x) e

  in_right : (H K : FinSet Q) (x : X) → set.contains K x ≡ true → set.contains (set.union H K) x ≡ true
  in_right H K x e = set.contains-union o H K x ∙ or_right (set.contains H x) (set.contains K x) e

  pub image-difference : (f : X → Y) (H K : FinSet Q) → IsOneToOneOn f (set.union H K) → image P f (set.difference H K) ≡ set.difference (image P f H) (image P f K)
  image-difference f H K one = is_image o exact op exact_p f (set.difference H K) (set.difference (image P f H) (image P f K))
      (λ y e.
      let both = and_both (set.contains (image P f H) y) (not (set.contains (image P f K) y)) (sym (set.contains-difference op (image P f H) (image P f K) y) ∙ e) in
      let v = in_image o exact op exact_p f H y both.0 in
      record { member = v.member; there = set.contains-difference o H K v.member ∙ (λ i. v.there i && (ap not (sym (out v.member v.there)) ∙ ap (λ z. not (set.contains (image P f K) z)) v.is ∙ both.1) i); is = v.is })
      (λ x e.
      let both = and_both (set.contains H x) (not (set.contains K x)) (sym (set.contains-difference o H K x) ∙ e) in
      set.contains-difference op (image P f H) (image P f K) (f x) ∙ (λ i. image_in o exact op exact_p f H x both.0 i && (ap not (out x both.0) ∙ both.1) i)) where
        out : (x : X) → set.contains H x ≡ true → set.contains (image P f K) (f x) ≡ set.contains K x
        out x there = contains-image f K x (λ y other same. one x (in_left H K x there) y (in_right H K y other) same)

  pub image-intersection : (f : X → Y) (H K : FinSet Q) → IsOneToOneOn f (set.union H K) → image P f (set.intersection H K) ≡ set.intersection (image P f H) (image P f K)
  image-intersection f H K one = is_image o exact op exact_p f (set.intersection H K) (set.intersection (image P f H) (image P f K))
      (λ y e.
      let both = and_both (set.contains (image P f H) y) (set.contains (image P f K) y) (sym (set.contains-intersection op (image P f H) (image P f K) y) ∙ e) in
      let v = in_image o exact op exact_p f H y both.0 in
      record { member = v.member; there = set.contains-intersection o H K v.member ∙ (λ i. v.there i && (sym (out v.member v.there) ∙ ap (set.contains (image P f K)) v.is ∙ both.1) i); is = v.is })
      (λ x e.
      let both = and_both (set.contains H x) (set.contains K x) (sym (set.contains-intersection o H K x) ∙ e) in
      set.contains-intersection op (image P f H) (image P f K) (f x) ∙ (λ i. image_in o exact op exact_p f H x both.0 i && image_in o exact op exact_p f K x both.1 i)) where
        out : (x : X) → set.contains H x ≡ true → set.contains (image P f K) (f x) ≡ set.contains K x
        out x there = contains-image f K x (λ y other same. one x (in_left H K x there) y (in_right H K y other) same)

  -- as many values as members
  pub len-image : (f : X → Y) (H : FinSet Q) → IsOneToOneOn f H → set.len (image P f H) ≡ set.len H
  len-image f = set_ind o exact (λ H. IsOneToOneOn f H → set.len (image P f H) ≡ set.len H)
      (λ _. ap set.len (image-empty o exact op exact_p f) ∙ set.len-empty P ∙ sym (set.len-empty Q))
      (λ H x new ind one.
      let here : set.contains (set.insert H x) x ≡ true = set.contains-insert o H x x ∙ ap (λ b. b || set.contains H x) (tied-itself o x) in
      let within : (y : X) → set.contains H y ≡ true → set.contains (set.insert H x) y ≡ true = λ y e. set.contains-insert o H x y ∙ or_right (eq_by_cmp Q y x) (set.contains H y) e in
      let rest = ind (one_to_one_within f (set.insert H x) H within one) in
      let out : set.contains (image P f H) (f x) ≡ false = contains-image f H x (λ y other same. one x here y (within y other) same) ∙ new in
      ap set.len (image-insert o exact op exact_p f H x)
      ∙ set.len-insert op (image P f H) (f x)
      ∙ ap (λ b. cond b (set.len (image P f H)) (set.len (image P f H) + 1)) out
      ∙ ap (λ n. n + 1) rest
      ∙ sym (set.len-insert o H x ∙ ap (λ b. cond b (set.len H) (set.len H + 1)) new))

  -- sets with one image are one set
  pub same_images : (f : X → Y) (H K : FinSet Q) → IsOneToOneOn f (set.union H K) → image P f H ≡ image P f K → H ≡ K
  same_images f H K one same = set.same_set o exact H K (λ x. same_test _ _
      (λ e.
      let v = in_image o exact op exact_p f K (f x) (ap (λ S. set.contains S (f x)) (sym same) ∙ image_in o exact op exact_p f H x e) in
      ap (set.contains K) (sym (one x (in_left H K x e) v.member (in_right H K v.member v.there) v.is)) ∙ v.there)
      (λ e.
      let v = in_image o exact op exact_p f H (f x) (ap (λ S. set.contains S (f x)) same ∙ image_in o exact op exact_p f K x e) in
      ap (set.contains H) (sym (one x (in_right H K x e) v.member (in_left H K v.member v.there) v.is)) ∙ v.there))
