-- What is in an image, and the images of sets that are made of others.
use Rattle.std.specs.Prelude.{◌≡◌, ◌&&◌, ◌||◌, Bool, true, List, [], ◌∷◌, map}
use Rattle.std.proofs.Common.{sym, ◌∙◌, ap}
use Rattle.std.specs.List.{list_any}
use Rattle.std.specs.Ordering.{eq_by_cmp}
use Rattle.std.specs.declared.cmp.Ordering.{Ordering}
use Rattle.std.specs.Cmp.{IsTotalOrder}
use Rattle.std.specs.FinSet.{FinSet, IsAntisymmetric}
use Rattle.std.specs.FinSet as set
use Rattle.hypertrie_model.specs.SetLaws.{same_test, tied-is, tied-itself, or_cases, or_right, and_both}
use Rattle.hypertrie_model.specs.SliceLaws.{any_passes, passes_any}
use Rattle.hypertrie_model.specs.Members.{contains-kept}
use Rattle.hypertrie_model.specs.ShapeLaws.{any-map}
use Rattle.set_image.specs.Images.{image, AgreeOn}

module _ {X Y : Type 0} {Q : X → X → Ordering} {P : Y → Y → Ordering} (o : IsTotalOrder Q) (exact : IsAntisymmetric Q) (op : IsTotalOrder P) (exact_p : IsAntisymmetric P) where
  -- the value is that of a member
  pub record IsValue (f : X → Y) (H : FinSet Q) (y : Y) : Type 0 where
    pub member : X
    pub there : set.contains H member ≡ true
    pub is : f member ≡ y

  any-image : (f : X → Y) (H : FinSet Q) (y : Y) → set.contains (image P f H) y ≡ list_any (λ x. eq_by_cmp P y (f x)) (set.items H)
  unfolding image
  any-image f H y = set.contains-from_list op (map f (set.items H)) y ∙ any-map f (eq_by_cmp P y) (set.items H)

  -- what is in an image is the value of a member
  pub in_image : (f : X → Y) (H : FinSet Q) (y : Y) → set.contains (image P f H) y ≡ true → IsValue f H y
  in_image f H y e =
      let p = any_passes o (λ x. eq_by_cmp P y (f x)) (set.items H) (sym (any-image f H y) ∙ e) in
      record { member = p.member; there = set.contains-items H p.member ∙ p.there; is = sym (tied-is exact_p y (f p.member) p.passes) }

  -- and the value of each member is there
  pub image_in : (f : X → Y) (H : FinSet Q) (x : X) → set.contains H x ≡ true → set.contains (image P f H) (f x) ≡ true
  image_in f H x e =
      any-image f H (f x)
      ∙ passes_any exact (λ z. eq_by_cmp P (f x) (f z)) (set.items H) x (sym (set.contains-items H x) ∙ e) (tied-itself op (f x))

  pub value_in : (f : X → Y) (H : FinSet Q) (y : Y) → IsValue f H y → set.contains (image P f H) y ≡ true
  value_in f H y v = ap (set.contains (image P f H)) (sym v.is) ∙ image_in f H v.member v.there

  -- a set that has exactly the values of the members is the image
  pub is_image : (f : X → Y) (H : FinSet Q) (S : FinSet P) → ((y : Y) → set.contains S y ≡ true → IsValue f H y) → ((x : X) → set.contains H x ≡ true → set.contains S (f x) ≡ true) → image P f H ≡ S
  is_image f H S from into = set.same_set op exact_p (image P f H) S (λ y. same_test _ _
      (λ e. let v = in_image f H y e in ap (set.contains S) (sym v.is) ∙ into v.member v.there)
      (λ e. value_in f H y (from y e)))

  -- functions that agree on the members have one image
  pub image-same : (f g : X → Y) (H : FinSet Q) → AgreeOn f g H → image P f H ≡ image P g H
  image-same f g H same = is_image f H (image P g H)
      (λ y e. let v = in_image g H y e in record { member = v.member; there = v.there; is = same v.member v.there ∙ v.is })
      (λ x e. ap (set.contains (image P g H)) (same x e) ∙ image_in g H x e)

  -- the set of a list's items has the set of their values for its image
  pub image-from_list : (f : X → Y) (xs : List X) → image P f (set.from_list {R = Q} xs) ≡ set.from_list (map f xs)
  image-from_list f xs = is_image f (set.from_list xs) (set.from_list (map f xs))
      (λ y e.
      let p = any_passes o (λ x. eq_by_cmp P y (f x)) xs (sym (set.contains-from_list op (map f xs) y ∙ any-map f (eq_by_cmp P y) xs) ∙ e) in
      record { member = p.member; there = set.contains-from_list o xs p.member ∙ p.there; is = sym (tied-is exact_p y (f p.member) p.passes) })
      (λ x e.
      set.contains-from_list op (map f xs) (f x) ∙ any-map f (eq_by_cmp P (f x)) xs
      ∙ passes_any exact (λ z. eq_by_cmp P (f x) (f z)) xs x (sym (set.contains-from_list o xs x) ∙ e) (tied-itself op (f x)))

  pub image-empty : (f : X → Y) → image P f (set.empty {R = Q}) ≡ set.empty
  image-empty f = image-from_list f []

  pub image-single : (f : X → Y) (x : X) → image P f (set.from_list {R = Q} (x ∷ [])) ≡ set.from_list (f x ∷ [])
  image-single f x = image-from_list f (x ∷ [])

  pub image-insert : (f : X → Y) (H : FinSet Q) (x : X) → image P f (set.insert H x) ≡ set.insert (image P f H) (f x)
  image-insert f H x = is_image f (set.insert H x) (set.insert (image P f H) (f x))
      (λ y e. or_cases (eq_by_cmp P y (f x)) (set.contains (image P f H) y) (sym (set.contains-insert op (image P f H) (f x) y) ∙ e) (IsValue f (set.insert H x) y)
      (λ here. record { member = x; there = set.contains-insert o H x x ∙ ap (λ b. b || set.contains H x) (tied-itself o x); is = sym (tied-is exact_p y (f x) here) })
      (λ rest.
      let v = in_image f H y rest in
      record { member = v.member; there = set.contains-insert o H x v.member ∙ or_right (eq_by_cmp Q v.member x) (set.contains H v.member) v.there; is = v.is }))
      (λ z e. set.contains-insert op (image P f H) (f x) (f z) ∙ or_cases (eq_by_cmp Q z x) (set.contains H z) (sym (set.contains-insert o H x z) ∙ e) ((eq_by_cmp P (f z) (f x) || set.contains (image P f H) (f z)) ≡ true)
      (λ here. ap (λ w. eq_by_cmp P (f w) (f x) || set.contains (image P f H) (f w)) (tied-is exact z x here) ∙ ap (λ b. b || set.contains (image P f H) (f x)) (tied-itself op (f x)))
      (λ rest. or_right (eq_by_cmp P (f z) (f x)) (set.contains (image P f H) (f z)) (image_in f H z rest)))

  either : (a b : Bool) (C : Type 0) → (a ≡ true → C) → (b ≡ true → C) → (a || b) ≡ true → C
  either a b C left right e = or_cases a b e C left right

  in_either_left : (a b : Bool) → a ≡ true → (a || b) ≡ true
  in_either_left a b e = ap (λ z. z || b) e

  pub image-union : (f : X → Y) (H K : FinSet Q) → image P f (set.union H K) ≡ set.union (image P f H) (image P f K)
  image-union f H K = is_image f (set.union H K) (set.union (image P f H) (image P f K))
      (λ y e. either (set.contains (image P f H) y) (set.contains (image P f K) y) (IsValue f (set.union H K) y)
      (λ a. let v = in_image f H y a in record { member = v.member; there = set.contains-union o H K v.member ∙ in_either_left (set.contains H v.member) (set.contains K v.member) v.there; is = v.is })
      (λ b. let v = in_image f K y b in record { member = v.member; there = set.contains-union o H K v.member ∙ or_right (set.contains H v.member) (set.contains K v.member) v.there; is = v.is })
      (sym (set.contains-union op (image P f H) (image P f K) y) ∙ e))
      (λ x e. set.contains-union op (image P f H) (image P f K) (f x)
      ∙ either (set.contains H x) (set.contains K x) ((set.contains (image P f H) (f x) || set.contains (image P f K) (f x)) ≡ true)
      (λ a. in_either_left (set.contains (image P f H) (f x)) (set.contains (image P f K) (f x)) (image_in f H x a))
      (λ b. or_right (set.contains (image P f H) (f x)) (set.contains (image P f K) (f x)) (image_in f K x b))
      (sym (set.contains-union o H K x) ∙ e))

  -- the members whose values pass a test
  pub image-retain : (f : X → Y) (H : FinSet Q) (p : Y → Bool) → image P f (set.retain H (λ x. p (f x))) ≡ set.retain (image P f H) p
  image-retain f H p = is_image f (set.retain H (λ x. p (f x))) (set.retain (image P f H) p)
      (λ y e.
      let both = and_both (set.contains (image P f H) y) (p y) (sym (contains-kept op exact_p (image P f H) p y) ∙ e) in
      let v = in_image f H y both.0 in
      record { member = v.member; there = contains-kept o exact H (λ x. p (f x)) v.member ∙ (λ i. v.there i && (ap p v.is ∙ both.1) i); is = v.is })
      (λ x e.
      let both = and_both (set.contains H x) (p (f x)) (sym (contains-kept o exact H (λ z. p (f z)) x) ∙ e) in
      contains-kept op exact_p (image P f H) p (f x) ∙ (λ i. image_in f H x both.0 i && both.1 i))

module _ {X Y Z : Type 0} {Q : X → X → Ordering} {P : Y → Y → Ordering} {R : Z → Z → Ordering} (o : IsTotalOrder Q) (exact : IsAntisymmetric Q) (op : IsTotalOrder P) (exact_p : IsAntisymmetric P) (or : IsTotalOrder R) (exact_r : IsAntisymmetric R) where
  -- one image after another
  pub image-image : (f : X → Y) (g : Y → Z) (H : FinSet Q) → image R g (image P f H) ≡ image R (λ x. g (f x)) H
  image-image f g H = sym (is_image o exact or exact_r (λ x. g (f x)) H (image R g (image P f H))
      (λ z e.
      let v = in_image op exact_p or exact_r g (image P f H) z e in
      let w = in_image o exact op exact_p f H v.member v.there in
      record { member = w.member; there = w.there; is = ap g w.is ∙ v.is })
      (λ x e. image_in op exact_p or exact_r g (image P f H) (f x) (image_in o exact op exact_p f H x e)))
