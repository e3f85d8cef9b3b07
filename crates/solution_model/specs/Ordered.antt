-- Lists in the order of the bytes of a text that each member has; members of one text stay as they stood.
use Rattle.std.specs.Prelude.{cond, List, [], ◌∷◌}
use Rattle.std.specs.Ordering.{is_lt}
use Rattle.rdf_model.specs.Terms.{Text}
use Rattle.rdf_model.specs.Sorting.{text_cmp}

module _ {X : Type 0} (text : X → Text) where
  -- the member before the first whose text isn't below its own
  abbrev pub placed_by : X → List X → List X
  placed_by x [] = x ∷ []
  placed_by x (y ∷ ys) = cond (is_lt (text_cmp (text y) (text x))) (y ∷ placed_by x ys) (x ∷ y ∷ ys)

  abbrev pub ordered_by : List X → List X
  ordered_by [] = []
  ordered_by (x ∷ xs) = placed_by x (ordered_by xs)
