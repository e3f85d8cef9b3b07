use Rattle.std.proofs.Common.{◌≡◌, take}
use Rattle.std.specs.List.{list_all}
use Rattle.ntriples_model.specs.Characters.{is_string_char}
use Rattle.rdf_term.proofs.classes.all_fit_string.Given as goal

abbrev pub invariant-loop-b : goal.invariant-loop-b
invariant-loop-b l = l.fit ≡ list_all is_string_char (take l.b-index l.run)
