use Rattle.std.proofs.Common.{◌≡◌, drop}
use Rattle.ntriples_model.specs.Terminals.{is_scheme_rest}
use Rattle.rdf_term.proofs.quoted.ends_scheme.Given as goal

abbrev pub invariant-loop-b : goal.invariant-loop-b
invariant-loop-b l = is_scheme_rest l.bytes ≡ is_scheme_rest (drop l.b-index l.bytes)
