-- Tuples, keys and slices of a set that is read.
use Rattle.std.specs.Prelude.{◌≡◌, ℕ, zero, suc, ◌≤◌, ◌&&◌, Bool, true, false, List, [], ◌∷◌, length, map, refl}
use Rattle.std.proofs.Common.{sym, ◌∙◌, ap, arith}
use Rattle.std.proofs.lemmas.Cmp.{lists_total}
use Rattle.std.proofs.lemmas.List.{length-map}
use Rattle.std.specs.List.{list_all, insert, remove}
use Rattle.std.specs.Ordering.{eq_by_cmp}
use Rattle.std.specs.declared.cmp.Ordering.{Ordering}
use Rattle.std.specs.Cmp.{IsTotalOrder}
use Rattle.std.specs.FinSet.{IsAntisymmetric, slice_cmp-IsAntisymmetric}
use Rattle.std.specs.FinSet as set
use Rattle.hypertrie_model.specs.Sets.{TupleSet, has}
use Rattle.hypertrie_model.specs.SetLaws.{or_cases, and_both, tied-is, tied-itself}
use Rattle.hypertrie_model.specs.Slices.{is_at, keys, slice}
use Rattle.hypertrie_model.specs.SliceLaws.{has-keys, keys-has, has-slice, has-slice_short, by_length, at-insert_at, insert-remove_at, remove-insert_at}
use Rattle.set_image.specs.Images.{image, IsOneToOneOn}
use Rattle.set_image.specs.ImageLaws.{IsValue, in_image, image_in, is_image}
use Rattle.set_image.specs.OneToOneLaws.{len-image, same_images}
use Rattle.tuple_image.specs.TupleImages.{tuple_image, IsOver, IsOneToOneWhere}

module _ {A B : Type 0} (f : A → B) where
  map-insert_at : (t : List A) (i : ℕ) (x : A) → map f (insert t i x) ≡ insert (map f t) i (f x)
  map-insert_at t zero x = refl
  map-insert_at [] (suc i) x = refl
  map-insert_at (y ∷ t) (suc i) x = ap (λ ys. f y ∷ ys) (map-insert_at t i x)

  map-remove_at : (t : List A) (i : ℕ) → map f (remove t i) ≡ remove (map f t) i
  map-remove_at [] zero = refl
  map-remove_at [] (suc i) = refl
  map-remove_at (y ∷ t) zero = refl
  map-remove_at (y ∷ t) (suc i) = ap (λ ys. f y ∷ ys) (map-remove_at t i)

  -- tuples that are read alike are one
  same_tuples : (known : A → Bool) → IsOneToOneWhere known f → (t u : List A) → list_all known t ≡ true → list_all known u ≡ true → map f t ≡ map f u → t ≡ u
  same_tuples known one [] [] kt ku e = refl
  same_tuples known one [] (y ∷ u) kt ku e = absurd (let n : ⊥ = cc in n)
  same_tuples known one (x ∷ t) [] kt ku e = absurd (let n : ⊥ = cc in n)
  same_tuples known one (x ∷ t) (y ∷ u) kt ku e =
      let a = and_both (known x) (list_all known t) kt in
      let b = and_both (known y) (list_all known u) ku in
      let head : f x ≡ f y = cc in
      let tail : map f t ≡ map f u = cc in
      λ j. one x y a.0 b.0 head j ∷ same_tuples known one t u a.1 b.1 tail j

module _ {A B : Type 0} {R : A → A → Ordering} {P : B → B → Ordering} (o : IsTotalOrder R) (exact : IsAntisymmetric R) (op : IsTotalOrder P) (exact_p : IsAntisymmetric P) (f : A → B) where
  -- the element that is read to what stands at a position
  record StandsFor (t : List A) (i : ℕ) (y : B) : Type 0 where
    element : A
    stands : is_at R i element t ≡ true
    is : f element ≡ y

  at-map : (t : List A) (i : ℕ) (y : B) → is_at P i y (map f t) ≡ true → StandsFor t i y
  at-map [] i y e = absurd (let n : ⊥ = cc in n)
  at-map (x ∷ t) zero y e = record { element = x; stands = tied-itself o x; is = sym (tied-is exact_p y (f x) e) }
  at-map (x ∷ t) (suc i) y e = let s = at-map t i y e in record { element = s.element; stands = s.stands; is = s.is }

  map-at : (t : List A) (i : ℕ) (x : A) → is_at R i x t ≡ true → is_at P i (f x) (map f t) ≡ true
  map-at [] i x e = e
  map-at (y ∷ t) zero x e = ap (λ z. eq_by_cmp P (f z) (f y)) (tied-is exact x y e) ∙ tied-itself op (f y)
  map-at (y ∷ t) (suc i) x e = map-at t i x e

  -- a tuple of a set that is read is a tuple of the set, read
  pub read_tuple : (H : TupleSet R) (v : List B) → has (tuple_image P f H) v ≡ true → IsValue (lists_total o) (slice_cmp-IsAntisymmetric exact) (lists_total op) (slice_cmp-IsAntisymmetric exact_p) (map f) H v
  read_tuple H v e = in_image (lists_total o) (slice_cmp-IsAntisymmetric exact) (lists_total op) (slice_cmp-IsAntisymmetric exact_p) (map f) H v e

  pub tuple_read : (H : TupleSet R) (t : List A) → has H t ≡ true → has (tuple_image P f H) (map f t) ≡ true
  tuple_read H t e = image_in (lists_total o) (slice_cmp-IsAntisymmetric exact) (lists_total op) (slice_cmp-IsAntisymmetric exact_p) (map f) H t e

  -- the keys are read
  pub keys-tuple_image : (H : TupleSet R) (i : ℕ) → keys P (tuple_image P f H) i ≡ image P f (keys R H i)
  keys-tuple_image H i = sym (is_image o exact op exact_p f (keys R H i) (keys P (tuple_image P f H) i)
      (λ y e.
      let key = has-keys op exact_p (tuple_image P f H) i y e in
      let v = read_tuple H key.tuple key.there in
      let s = at-map v.member i y (ap (is_at P i y) v.is ∙ key.stands) in
      record { member = s.element; there = keys-has o exact H i s.element v.member v.there s.stands; is = s.is })
      (λ x e.
      let key = has-keys o exact H i x e in
      keys-has op exact_p (tuple_image P f H) i (f x) (map f key.tuple) (tuple_read H key.tuple key.there) (map-at key.tuple i x key.stands)))

  module _ (known : A → Bool) (one : IsOneToOneWhere known f) where
    -- the reading is one to one on sets of known elements
    pub one_to_one : (H : TupleSet R) → IsOver known H → IsOneToOneOn (map f) H
    one_to_one H over t there u other same = same_tuples f known one u t (over u other) (over t there) same

    pub over-union : (H K : TupleSet R) → IsOver known H → IsOver known K → IsOver known (set.union H K)
    over-union H K left right t e = or_cases (has H t) (has K t) (sym (set.contains-union (lists_total o) H K t) ∙ e) (list_all known t ≡ true) (left t) (right t)

    -- sets that are read alike are one
    pub same_tuple_images : (H K : TupleSet R) → IsOver known H → IsOver known K → tuple_image P f H ≡ tuple_image P f K → H ≡ K
    same_tuple_images H K left right same = same_images (lists_total o) (slice_cmp-IsAntisymmetric exact) (lists_total op) (slice_cmp-IsAntisymmetric exact_p) (map f) H K (one_to_one (set.union H K) (over-union H K left right)) same

    -- as many tuples
    pub len-tuple_image : (H : TupleSet R) → IsOver known H → set.len (tuple_image P f H) ≡ set.len H
    len-tuple_image H over = len-image (lists_total o) (slice_cmp-IsAntisymmetric exact) (lists_total op) (slice_cmp-IsAntisymmetric exact_p) (map f) H (one_to_one H over)

    known-at : (t : List A) (i : ℕ) (x : A) → list_all known t ≡ true → is_at R i x t ≡ true → known x ≡ true
    known-at [] i x all e = absurd (let n : ⊥ = cc in n)
    known-at (y ∷ t) zero x all e = ap known (tied-is exact x y e) ∙ (and_both (known y) (list_all known t) all).0
    known-at (y ∷ t) (suc i) x all e = known-at t i x (and_both (known y) (list_all known t) all).1 e

    known-remove : (t : List A) (i : ℕ) → list_all known t ≡ true → list_all known (remove t i) ≡ true
    known-remove [] zero all = refl
    known-remove [] (suc i) all = refl
    known-remove (y ∷ t) zero all = (and_both (known y) (list_all known t) all).1
    known-remove (y ∷ t) (suc i) all = let a = and_both (known y) (list_all known t) all in (λ j. a.0 j && known-remove t i a.1 j)

    -- the keys of a set of known elements are known, and so are its slices' elements
    pub keys-known : (H : TupleSet R) (i : ℕ) (x : A) → IsOver known H → set.contains (keys R H i) x ≡ true → known x ≡ true
    keys-known H i x over e = let key = has-keys o exact H i x e in known-at key.tuple i x (over key.tuple key.there) key.stands

    length-remove_at : (t : List A) (i : ℕ) (x : A) → is_at R i x t ≡ true → i ≤ length (remove t i)
    length-remove_at [] i x e = absurd (let n : ⊥ = cc in n)
    length-remove_at (y ∷ t) zero x e = omega arith
    length-remove_at (y ∷ t) (suc i) x e = let rest = length-remove_at t i x e in omega arith

    pub over-slice : (H : TupleSet R) (i : ℕ) (x : A) → IsOver known H → IsOver known (slice R H i x)
    over-slice H i x over u e = by_length o exact (list_all known u ≡ true) i u
        (λ le. ap (list_all known) (sym (remove-insert_at u i x le)) ∙ known-remove (insert u i x) i (over (insert u i x) (sym (has-slice o exact H i x u le) ∙ e)))
        (λ gt. absurd (let n : false ≡ true = sym (has-slice_short o exact H i x u gt) ∙ e in let f : ⊥ = cc in f))

    -- the slice at a key is read
    pub slice-tuple_image : (H : TupleSet R) (i : ℕ) (x : A) → IsOver known H → known x ≡ true → slice P (tuple_image P f H) i (f x) ≡ tuple_image P f (slice R H i x)
    slice-tuple_image H i x over is_known = sym (is_image (lists_total o) (slice_cmp-IsAntisymmetric exact) (lists_total op) (slice_cmp-IsAntisymmetric exact_p) (map f) (slice R H i x) (slice P (tuple_image P f H) i (f x)) from into) where
      Value : List B → Type 0
      Value v = IsValue (lists_total o) (slice_cmp-IsAntisymmetric exact) (lists_total op) (slice_cmp-IsAntisymmetric exact_p) (map f) (slice R H i x) v

      from : (v : List B) → has (slice P (tuple_image P f H) i (f x)) v ≡ true → Value v
      from v e = by_length op exact_p (Value v) i v
          (λ le.
          let read = read_tuple H (insert v i (f x)) (sym (has-slice op exact_p (tuple_image P f H) i (f x) v le) ∙ e) in
          let t = read.member in
          let s = at-map t i (f x) (ap (is_at P i (f x)) read.is ∙ at-insert_at op exact_p v i (f x) le) in
          let key : s.element ≡ x = one s.element x (known-at t i s.element (over t read.there) s.stands) is_known s.is in
          let stands : is_at R i x t ≡ true = ap (λ z. is_at R i z t) (sym key) ∙ s.stands in
          record {
            member = remove t i;
            there = has-slice o exact H i x (remove t i) (length-remove_at t i x stands) ∙ ap (has H) (insert-remove_at o exact t i x stands) ∙ read.there;
            is = map-remove_at f t i ∙ ap (λ w. remove w i) read.is ∙ remove-insert_at v i (f x) le;
          })
          (λ gt. absurd (let n : false ≡ true = sym (has-slice_short op exact_p (tuple_image P f H) i (f x) v gt) ∙ e in let f : ⊥ = cc in f))

      into : (u : List A) → has (slice R H i x) u ≡ true → has (slice P (tuple_image P f H) i (f x)) (map f u) ≡ true
      into u e = by_length o exact (has (slice P (tuple_image P f H) i (f x)) (map f u) ≡ true) i u
          (λ le.
          has-slice op exact_p (tuple_image P f H) i (f x) (map f u) (omega (arith, length-map u f))
          ∙ ap (has (tuple_image P f H)) (sym (map-insert_at f u i x))
          ∙ tuple_read H (insert u i x) (sym (has-slice o exact H i x u le) ∙ e))
          (λ gt. absurd (let n : false ≡ true = sym (has-slice_short o exact H i x u gt) ∙ e in let f : ⊥ = cc in f))
