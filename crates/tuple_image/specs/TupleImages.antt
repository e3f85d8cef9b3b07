-- A set of tuples read element by element, and what it takes for the reading to lose nothing.
use Rattle.std.specs.Prelude.{◌≡◌, ℕ, Bool, true, List, map}
use Rattle.std.specs.List.{list_all}
use Rattle.std.specs.declared.cmp.Ordering.{Ordering}
use Rattle.std.specs.Cmp.Lexicographic.{slice_cmp}
use Rattle.std.specs.FinSet as set
use Rattle.hypertrie_model.specs.Sets.{TupleSet, has}
use Rattle.hypertrie_model.specs.Shapes.{InShape}
use Rattle.set_image.specs.Images.{image}

-- the tuples, each read element by element
abbrev pub tuple_image : {A B : Type 0} {Q : List A → List A → Ordering} (P : B → B → Ordering) → (A → B) → set.FinSet Q → TupleSet P
tuple_image P f H = image (slice_cmp P) (map f) H

-- every element of every tuple passes the test
abbrev pub IsOver : {A : Type 0} {Q : List A → List A → Ordering} → (A → Bool) → set.FinSet Q → Type 0
IsOver known H = (t : List _) → has H t ≡ true → list_all known t ≡ true

-- no two elements that pass the test are read alike
abbrev pub IsOneToOneWhere : {A B : Type 0} → (A → Bool) → (A → B) → Type 0
IsOneToOneWhere known f = (x y : _) → known x ≡ true → known y ≡ true → f x ≡ f y → x ≡ y

-- a row of the shape of a set whose tuples are read to T
pub record IsReadRow {A B : Type 0} (R : A → A → Ordering) (P : B → B → Ordering) (f : A → B) (H : TupleSet R) (d : ℕ) (T : TupleSet P) (n : ℕ) : Type 0 where
  pub tuples : TupleSet R
  pub row : InShape R H d tuples n
  pub is : tuple_image P f tuples ≡ T

-- the rows of the shape of a set, read, are those of the shape of the set that is read, one for one
pub record ReadsShape {A B : Type 0} (R : A → A → Ordering) (P : B → B → Ordering) (f : A → B) (H : TupleSet R) : Type 0 where
  pub sound : (d : ℕ) (S : TupleSet R) (n : ℕ) → InShape R H d S n → InShape P (tuple_image P f H) d (tuple_image P f S) n
  pub complete : (d : ℕ) (T : TupleSet P) (n : ℕ) → InShape P (tuple_image P f H) d T n → IsReadRow R P f H d T n
  pub single : (d e : ℕ) (S T : TupleSet R) (m n : ℕ) → InShape R H d S m → InShape R H e T n → tuple_image P f S ≡ tuple_image P f T → S ≡ T
