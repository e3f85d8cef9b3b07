-- How the two forms of a line agree.
use Rattle.std.specs.Prelude.{◌≡◌, ◌↔◌, Option, Some}
use Rattle.rdf_model.specs.Terms.{Text, Triple}
use Rattle.ntriples_model.specs.Line.{IsLine, said}

-- The function says of a line exactly what the productions do, so a line says one thing at most.
abbrev pub SaysAsProductions : Type 0
SaysAsProductions = (scope line : Text) (says : Option Triple) → IsLine scope line says ↔ (said scope line ≡ Some says)
