-- The rows of the shape of a set of triples that is read.
use Rattle.std.specs.Prelude.{◌≡◌, ℕ, zero, suc, ◌≤◌, Bool, refl}
use Rattle.std.proofs.Common.{sym, ◌∙◌, ap, subst, arith}
use Rattle.std.specs.declared.cmp.Ordering.{Ordering}
use Rattle.std.specs.Cmp.{IsTotalOrder}
use Rattle.std.specs.FinSet.{IsAntisymmetric}
use Rattle.std.specs.FinSet as set
use Rattle.hypertrie_model.specs.Sets.{TupleSet}
use Rattle.hypertrie_model.specs.Shapes.{two, count2, one, count1, InShape}
use Rattle.hypertrie_model.specs.ShapeLaws.{sets_total, sets_exact}
use Rattle.hypertrie_model.specs.ShapeRows.{IsRowOf, in_shape, shape_in}
use Rattle.set_image.specs.ImageLaws.{in_image, image_in}
use Rattle.tuple_image.specs.TupleImages.{tuple_image, IsOver, IsOneToOneWhere, IsReadRow, ReadsShape}
use Rattle.tuple_image.specs.TupleLaws.{len-tuple_image, same_tuple_images}
use Rattle.tuple_image.specs.ShapeImages.{over-two, over-one, two-tuple_image, one-tuple_image, count2-tuple_image, count1-tuple_image}

module _ {A B : Type 0} {R : A → A → Ordering} {P : B → B → Ordering} (o : IsTotalOrder R) (exact : IsAntisymmetric R) (op : IsTotalOrder P) (exact_p : IsAntisymmetric P) (f : A → B) (known : A → Bool) (lone : IsOneToOneWhere known f) (G : TupleSet R) (over : IsOver known G) where
  over_row : (d : ℕ) (S : TupleSet R) (n : ℕ) → IsRowOf R G d S n → IsOver known S
  over_row zero S n row = absurd row
  over_row (suc zero) S n row = over-one o exact op exact_p f known lone G over S row.0
  over_row (suc (suc zero)) S n row = over-two o exact op exact_p f known lone G over S row.0
  over_row (suc (suc (suc zero))) S n row = subst (IsOver known) (sym row.0) over
  over_row (suc (suc (suc (suc d)))) S n row = absurd row

  -- the sets of a shape are over the known elements
  pub over-shape : (d : ℕ) (S : TupleSet R) (n : ℕ) → InShape R G d S n → IsOver known S
  over-shape d S n row = over_row d S n (in_shape o exact G d S n row).1

  read_row : (d : ℕ) (S : TupleSet R) (n : ℕ) → IsRowOf R G d S n → IsRowOf P (tuple_image P f G) d (tuple_image P f S) n
  read_row zero S n row = absurd row
  read_row (suc zero) S n row = (
    ap (λ U. set.contains U (tuple_image P f S)) (one-tuple_image o exact op exact_p f known lone G over) ∙ image_in (sets_total o exact) (sets_exact o exact) (sets_total op exact_p) (sets_exact op exact_p) (tuple_image P f) (one R G) S row.0,
    row.1 ∙ sym (count1-tuple_image o exact op exact_p f known lone G S over (over_row 1 S n row)),
  )
  read_row (suc (suc zero)) S n row = (
    ap (λ U. set.contains U (tuple_image P f S)) (two-tuple_image o exact op exact_p f known lone G over) ∙ image_in (sets_total o exact) (sets_exact o exact) (sets_total op exact_p) (sets_exact op exact_p) (tuple_image P f) (two R G) S row.0,
    row.1 ∙ sym (count2-tuple_image o exact op exact_p f known lone G S over (over_row 2 S n row)),
  )
  read_row (suc (suc (suc zero))) S n row = (ap (tuple_image P f) row.0, row.1)
  read_row (suc (suc (suc (suc d)))) S n row = absurd row

  large : (n : ℕ) → n ≤ set.len (tuple_image P f G) → n ≤ set.len G
  large n le = let same = len-tuple_image o exact op exact_p f known lone G over in omega arith

  sound : (d : ℕ) (S : TupleSet R) (n : ℕ) → InShape R G d S n → InShape P (tuple_image P f G) d (tuple_image P f S) n
  sound d S n row =
      let at = in_shape o exact G d S n row in
      let same = len-tuple_image o exact op exact_p f known lone G over in
      shape_in op exact_p (tuple_image P f G) d (tuple_image P f S) n (omega arith) (read_row d S n at.1)

  abbrev IsRead : ℕ → TupleSet P → ℕ → Type 0
  IsRead d T n = (S : TupleSet R) × (IsRowOf R G d S n) × (tuple_image P f S ≡ T)

  row_read : (d : ℕ) (T : TupleSet P) (n : ℕ) → IsRowOf P (tuple_image P f G) d T n → IsRead d T n
  row_read zero T n row = absurd row
  row_read (suc zero) T n row =
      let v = in_image (sets_total o exact) (sets_exact o exact) (sets_total op exact_p) (sets_exact op exact_p) (tuple_image P f) (one R G) T (ap (λ U. set.contains U T) (sym (one-tuple_image o exact op exact_p f known lone G over)) ∙ row.0) in
      (v.member, (v.there, row.1 ∙ ap (count1 P (tuple_image P f G)) (sym v.is) ∙ count1-tuple_image o exact op exact_p f known lone G v.member over (over-one o exact op exact_p f known lone G over v.member v.there)), v.is)
  row_read (suc (suc zero)) T n row =
      let v = in_image (sets_total o exact) (sets_exact o exact) (sets_total op exact_p) (sets_exact op exact_p) (tuple_image P f) (two R G) T (ap (λ U. set.contains U T) (sym (two-tuple_image o exact op exact_p f known lone G over)) ∙ row.0) in
      (v.member, (v.there, row.1 ∙ ap (count2 P (tuple_image P f G)) (sym v.is) ∙ count2-tuple_image o exact op exact_p f known lone G v.member over (over-two o exact op exact_p f known lone G over v.member v.there)), v.is)
  row_read (suc (suc (suc zero))) T n row = (G, (refl, row.1), sym row.0)
  row_read (suc (suc (suc (suc d)))) T n row = absurd row

  complete : (d : ℕ) (T : TupleSet P) (n : ℕ) → InShape P (tuple_image P f G) d T n → IsReadRow R P f G d T n
  complete d T n row =
      let at = in_shape op exact_p (tuple_image P f G) d T n row in
      let read = row_read d T n at.1 in
      record { tuples = read.0; row = shape_in o exact G d read.0 n (large 2 at.0) read.1; is = read.2 }

  -- the shape is read, row by row
  pub reads_shape : ReadsShape R P f G
  reads_shape = record {
    sound = sound;
    complete = complete;
    single = λ d e S T m n row other same. same_tuple_images o exact op exact_p f known lone S T (over-shape d S m row) (over-shape e T n other) same;
  }
