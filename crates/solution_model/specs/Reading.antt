-- Patterns over elements that stand one to one for those of other patterns.
use Rattle.std.specs.Prelude.{◌≡◌, Bool, List, [], ◌∷◌, map, Option}
use Rattle.std.specs.Option.{option_map}
use Rattle.std.specs.declared.cmp.Ordering.{Ordering}
use Rattle.tuple_image.specs.TupleImages.{tuple_image, IsOver}
use Rattle.bag_model.specs.Solutions.{Rest}

-- each value of a row, read
abbrev pub read_row : {A B : Type 0} → (A → B) → List (Option A) → List (Option B)
read_row f row = map (option_map f) row

-- s has the tuples of r, which are of known elements, each element read
pub record IsRead {A B : Type 0} (R : A → A → Ordering) (P : B → B → Ordering) (f : A → B) (known : A → Bool) (r : Rest R) (s : Rest P) : Type 0 where
  pub labels : s.labels ≡ r.labels
  pub over : IsOver known r.tuples
  pub tuples : tuple_image P f r.tuples ≡ s.tuples

-- each of the patterns does, in their order
abbrev pub AreRead : {A B : Type 0} (R : A → A → Ordering) (P : B → B → Ordering) → (A → B) → (A → Bool) → List (Rest R) → List (Rest P) → Type 0
AreRead R P f known [] [] = Unit {0}
AreRead R P f known [] (s ∷ ss) = ⊥
AreRead R P f known (r ∷ rs) [] = ⊥
AreRead R P f known (r ∷ rs) (s ∷ ss) = IsRead R P f known r s × AreRead R P f known rs ss
