use Rattle.std.proofs.Common.{◌≡◌, take}
use Rattle.std.specs.List.{list_all}
use Rattle.rdf_term.specs.Escapes.{stays}
use Rattle.rdf_term.proofs.escaped.all_stay.Given as goal

abbrev pub invariant-loop-b : goal.invariant-loop-b
invariant-loop-b l = l.stay ≡ list_all (stays l.escapes) (take l.b-index l.bytes)
