use Rattle.rdf_term.proofs.TagLemmas.{IsSoFar}
use Rattle.rdf_term.proofs.tag.rest_len.Given as goal

abbrev pub invariant-loop-i : goal.invariant-loop-i
invariant-loop-i l = IsSoFar l.bytes l.digits l.i
