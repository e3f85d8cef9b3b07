use Rattle.std.proofs.Common.{◌≡◌, drop}
use Rattle.std.specs.List.{list_all}
use Rattle.ntriples_model.specs.Characters.{is_iri_char}
use Rattle.query_text.proofs.meaning.all_fit.Given as goal

abbrev pub invariant-loop-b : goal.invariant-loop-b
invariant-loop-b l = list_all is_iri_char l.bytes ≡ list_all is_iri_char (drop l.b-index l.bytes)
