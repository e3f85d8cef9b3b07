-- The texts of a line on small inputs.
use Rattle.std.proofs.Common.{◌≡◌, [], ◌∷◌, refl}
use Rattle.std.specs.Prelude.{codes}
use Rattle.rdf_model.specs.Terms.{Iri, Literal, Tagged}
use Rattle.rdf_model.specs.Sorting.{in_order}
use Rattle.graph_shape.specs.GraphShapes.{member_text, tabbed, depth_name}

pair : member_text (Iri (codes "x:a") ∷ Iri (codes "x:p") ∷ []) ≡ codes "<x:a> <x:p>"
pair = refl

key : member_text (Literal (codes "a\tb") (Tagged (codes "en")) ∷ []) ≡ codes "\"a\\tb\"@en"
key = refl

members : tabbed (in_order (codes "<x:b>" ∷ codes "<x:a> <x:p>" ∷ codes "<x:a>" ∷ codes "<x:b>" ∷ [])) ≡ codes "\t<x:a>\t<x:a> <x:p>\t<x:b>\t<x:b>"
members = refl

keys : depth_name 1 ≡ codes "one"
keys = refl

pairs : depth_name 2 ≡ codes "two"
pairs = refl
