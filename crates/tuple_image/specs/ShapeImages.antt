-- The shape of a set of triples that is read.
use Rattle.std.specs.Prelude.{◌≡◌, ℕ, ◌+◌, ◌||◌, Bool, true, false, cond, nat_le, refl, None, Some}
use Rattle.std.proofs.Common.{sym, ◌∙◌, ap}
use Rattle.std.specs.Ordering.{eq_by_cmp}
use Rattle.std.specs.declared.cmp.Ordering.{Ordering}
use Rattle.std.specs.Cmp.{IsTotalOrder}
use Rattle.std.specs.FinMap as finite
use Rattle.std.specs.FinSet.{IsAntisymmetric, FinSet}
use Rattle.std.specs.FinSet as set
use Rattle.hypertrie_model.specs.Sets.{TupleSet}
use Rattle.hypertrie_model.specs.SetLaws.{or_cases, and_both, or_right, tied-itself}
use Rattle.hypertrie_model.specs.SetInduction.{set_ind}
use Rattle.hypertrie_model.specs.Folds.{sum_over, marked}
use Rattle.hypertrie_model.specs.FoldLaws.{sum_over-empty, sum_over-insert, sum_over-same, get-marked, marked-insert, marked-empty}
use Rattle.hypertrie_model.specs.Members.{contains-kept}
use Rattle.hypertrie_model.specs.Shapes.{set_cmp, SetOfSets, slices, times, two, count2, large_slices, one, count1}
use Rattle.hypertrie_model.specs.ShapeLaws.{sets_total, sets_exact, count2-sum, has-one, one-has}
use Rattle.set_image.specs.Images.{image, IsOneToOneOn}
use Rattle.set_image.specs.ImageLaws.{in_image, image_in, is_image, image-union, image-retain, image-empty, image-insert}
use Rattle.set_image.specs.OneToOneLaws.{contains-image, one_to_one_within}
use Rattle.tuple_image.specs.TupleImages.{tuple_image, IsOver, IsOneToOneWhere}
use Rattle.tuple_image.specs.TupleLaws.{len-tuple_image}
use Rattle.tuple_image.specs.SliceImages.{AreOver, retain-same, over-slices, sets_one_to_one, slices-tuple_image, times-tuple_image}

module _ {X Y : Type 0} {Q : X → X → Ordering} {P : Y → Y → Ordering} (o : IsTotalOrder Q) (exact : IsAntisymmetric Q) (op : IsTotalOrder P) (exact_p : IsAntisymmetric P) where
  -- a sum over an image is the sum over the members
  pub sum_over-image : (g : X → Y) (f : Y → Unit {0} → ℕ) (H : FinSet Q) → IsOneToOneOn g H → sum_over (marked (image P g H)) f ≡ sum_over (marked H) (λ x u. f (g x) u)
  sum_over-image g f = set_ind o exact (λ H. IsOneToOneOn g H → sum_over (marked (image P g H)) f ≡ sum_over (marked H) (λ x u. f (g x) u))
      (λ _.
      ap (λ S. sum_over (marked S) f) (image-empty o exact op exact_p g)
      ∙ ap (λ m. sum_over m f) (marked-empty op exact_p) ∙ sum_over-empty op exact_p f
      ∙ sym (ap (λ m. sum_over m (λ x u. f (g x) u)) (marked-empty o exact) ∙ sum_over-empty o exact (λ x u. f (g x) u)))
      (λ H x new ind one.
      let here : set.contains (set.insert H x) x ≡ true = set.contains-insert o H x x ∙ ap (λ b. b || set.contains H x) (tied-itself o x) in
      let within : (y : X) → set.contains H y ≡ true → set.contains (set.insert H x) y ≡ true = λ y e. set.contains-insert o H x y ∙ or_right (eq_by_cmp Q y x) (set.contains H y) e in
      let rest = ind (one_to_one_within o exact op exact_p g (set.insert H x) H within one) in
      let fresh : finite.get (marked H) x ≡ None = get-marked o exact H x ∙ ap (λ b. cond b (Some tt) None) new in
      let out : set.contains (image P g H) (g x) ≡ false = contains-image o exact op exact_p g H x (λ y other same. one x here y (within y other) same) ∙ new in
      let fresh_value : finite.get (marked (image P g H)) (g x) ≡ None = get-marked op exact_p (image P g H) (g x) ∙ ap (λ b. cond b (Some tt) None) out in
      ap (λ S. sum_over (marked S) f) (image-insert o exact op exact_p g H x)
      ∙ ap (λ m. sum_over m f) (marked-insert op exact_p (image P g H) (g x))
      ∙ sum_over-insert op exact_p (marked (image P g H)) f (g x) tt fresh_value
      ∙ ap (λ n. f (g x) tt + n) rest
      ∙ sym (ap (λ m. sum_over m (λ z u. f (g z) u)) (marked-insert o exact H x) ∙ sum_over-insert o exact (marked H) (λ z u. f (g z) u) x tt fresh))

module _ {A B : Type 0} {R : A → A → Ordering} {P : B → B → Ordering} (o : IsTotalOrder R) (exact : IsAntisymmetric R) (op : IsTotalOrder P) (exact_p : IsAntisymmetric P) (f : A → B) (known : A → Bool) (lone : IsOneToOneWhere known f) where
  abbrev read_sets : SetOfSets R → SetOfSets P
  read_sets sets = image (set_cmp P) (tuple_image P f) sets

  over-either : (L K : SetOfSets R) → AreOver known L → AreOver known K → AreOver known (set.union L K)
  over-either L K left right S e = or_cases (set.contains L S) (set.contains K S) (sym (set.contains-union (sets_total o exact) L K S) ∙ e) (IsOver known S) (left S) (right S)

  pub over-two : (G : TupleSet R) → IsOver known G → AreOver known (two R G)
  unfolding two
  over-two G over =
      over-either (slices R G 0) (set.union (slices R G 1) (slices R G 2)) (over-slices o exact op exact_p f known lone G 0 over)
      (over-either (slices R G 1) (slices R G 2) (over-slices o exact op exact_p f known lone G 1 over) (over-slices o exact op exact_p f known lone G 2 over))

  pub two-tuple_image : (G : TupleSet R) → IsOver known G → two P (tuple_image P f G) ≡ read_sets (two R G)
  unfolding two
  two-tuple_image G over =
      (λ i. set.union (at 0 i) (set.union (at 1 i) (at 2 i)))
      ∙ ap (set.union (read_sets (slices R G 0))) (sym (union (slices R G 1) (slices R G 2)))
      ∙ sym (union (slices R G 0) (set.union (slices R G 1) (slices R G 2))) where
        at : (i : ℕ) → slices P (tuple_image P f G) i ≡ read_sets (slices R G i)
        at i = slices-tuple_image o exact op exact_p f known lone G i over

        union : (L K : SetOfSets R) → read_sets (set.union L K) ≡ set.union (read_sets L) (read_sets K)
        union L K = image-union (sets_total o exact) (sets_exact o exact) (sets_total op exact_p) (sets_exact op exact_p) (tuple_image P f) L K

  pub count2-tuple_image : (G S : TupleSet R) → IsOver known G → IsOver known S → count2 P (tuple_image P f G) (tuple_image P f S) ≡ count2 R G S
  count2-tuple_image G S over over_set =
      count2-sum P (tuple_image P f G) (tuple_image P f S)
      ∙ (λ i. at 0 i + (at 1 i + at 2 i))
      ∙ sym (count2-sum R G S) where
        at : (i : ℕ) → times P (tuple_image P f G) i (tuple_image P f S) ≡ times R G i S
        at i = times-tuple_image o exact op exact_p f known lone G i S over over_set

  pub over-large_slices : (S : TupleSet R) → IsOver known S → AreOver known (large_slices R S)
  unfolding large_slices
  over-large_slices S over T e =
      let both = and_both (set.contains (set.union (slices R S 0) (slices R S 1)) T) (nat_le 2 (set.len T)) (sym (contains-kept (sets_total o exact) (sets_exact o exact) (set.union (slices R S 0) (slices R S 1)) (λ T. nat_le 2 (set.len T)) T) ∙ e) in
      over-either (slices R S 0) (slices R S 1) (over-slices o exact op exact_p f known lone S 0 over) (over-slices o exact op exact_p f known lone S 1 over) T both.0

  pub large_slices-tuple_image : (S : TupleSet R) → IsOver known S → large_slices P (tuple_image P f S) ≡ read_sets (large_slices R S)
  unfolding large_slices
  large_slices-tuple_image S over =
      let both : SetOfSets R = set.union (slices R S 0) (slices R S 1) in
      let large : TupleSet P → Bool = λ T. nat_le 2 (set.len T) in
      let over_both : AreOver known both = over-either (slices R S 0) (slices R S 1) (over-slices o exact op exact_p f known lone S 0 over) (over-slices o exact op exact_p f known lone S 1 over) in
      ap (λ U. set.retain U large)
      ((λ i. set.union (slices-tuple_image o exact op exact_p f known lone S 0 over i) (slices-tuple_image o exact op exact_p f known lone S 1 over i))
      ∙ sym (image-union (sets_total o exact) (sets_exact o exact) (sets_total op exact_p) (sets_exact op exact_p) (tuple_image P f) (slices R S 0) (slices R S 1)))
      ∙ sym (image-retain (sets_total o exact) (sets_exact o exact) (sets_total op exact_p) (sets_exact op exact_p) (tuple_image P f) both large)
      ∙ ap read_sets (retain-same (sets_total o exact) (sets_exact o exact) both (λ T. large (tuple_image P f T)) (λ T. nat_le 2 (set.len T)) (λ T e. ap (nat_le 2) (len-tuple_image o exact op exact_p f known lone T (over_both T e))))

  pub over-one : (G : TupleSet R) → IsOver known G → AreOver known (one R G)
  over-one G over S e = let s = has-one o exact G S e in over-large_slices s.pairs (over-two G over s.pairs s.among) S s.slice_of

  pub one-tuple_image : (G : TupleSet R) → IsOver known G → one P (tuple_image P f G) ≡ read_sets (one R G)
  one-tuple_image G over = sym (is_image (sets_total o exact) (sets_exact o exact) (sets_total op exact_p) (sets_exact op exact_p) (tuple_image P f) (one R G) (one P (tuple_image P f G))
      (λ T e.
      let s = has-one op exact_p (tuple_image P f G) T e in
      let p = in_image (sets_total o exact) (sets_exact o exact) (sets_total op exact_p) (sets_exact op exact_p) (tuple_image P f) (two R G) s.pairs (ap (λ U. set.contains U s.pairs) (sym (two-tuple_image G over)) ∙ s.among) in
      let large = large_slices-tuple_image p.member (over-two G over p.member p.there) in
      let v = in_image (sets_total o exact) (sets_exact o exact) (sets_total op exact_p) (sets_exact op exact_p) (tuple_image P f) (large_slices R p.member) T (ap (λ U. set.contains U T) (sym large) ∙ ap (λ U. set.contains (large_slices P U) T) p.is ∙ s.slice_of) in
      record { member = v.member; there = one-has o exact G v.member (record { pairs = p.member; among = p.there; slice_of = v.there }); is = v.is })
      (λ S e.
      let s = has-one o exact G S e in
      one-has op exact_p (tuple_image P f G) (tuple_image P f S) (record {
        pairs = tuple_image P f s.pairs;
        among = ap (λ U. set.contains U (tuple_image P f s.pairs)) (two-tuple_image G over) ∙ image_in (sets_total o exact) (sets_exact o exact) (sets_total op exact_p) (sets_exact op exact_p) (tuple_image P f) (two R G) s.pairs s.among;
        slice_of = ap (λ U. set.contains U (tuple_image P f S)) (large_slices-tuple_image s.pairs (over-two G over s.pairs s.among))
            ∙ image_in (sets_total o exact) (sets_exact o exact) (sets_total op exact_p) (sets_exact op exact_p) (tuple_image P f) (large_slices R s.pairs) S s.slice_of;
      })))

  is_marked : (b : Bool) (u : Unit {0}) → cond b (Some tt) None ≡ Some u → b ≡ true
  is_marked true u e = refl
  is_marked false u e = cc

  pub count1-tuple_image : (G S : TupleSet R) → IsOver known G → IsOver known S → count1 P (tuple_image P f G) (tuple_image P f S) ≡ count1 R G S
  unfolding count1
  count1-tuple_image G S over over_set =
      let read : TupleSet P → Unit {0} → ℕ = λ T _. times P T 0 (tuple_image P f S) + times P T 1 (tuple_image P f S) in
      ap (λ U. sum_over (marked U) read) (two-tuple_image G over)
      ∙ sum_over-image (sets_total o exact) (sets_exact o exact) (sets_total op exact_p) (sets_exact op exact_p) (tuple_image P f) read (two R G) (sets_one_to_one o exact op exact_p f known lone (two R G) (over-two G over))
      ∙ sum_over-same (sets_total o exact) (sets_exact o exact) (λ T u. read (tuple_image P f T) u) (λ T _. times R T 0 S + times R T 1 S) (marked (two R G)) (λ T u e.
      let there = is_marked (set.contains (two R G) T) u (sym (get-marked (sets_total o exact) (sets_exact o exact) (two R G) T) ∙ e) in
      let over_pairs = over-two G over T there in
      λ i. times-tuple_image o exact op exact_p f known lone T 0 S over_pairs over_set i + times-tuple_image o exact op exact_p f known lone T 1 S over_pairs over_set i)
