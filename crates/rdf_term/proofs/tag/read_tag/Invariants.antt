use Rattle.rdf_term.proofs.TagLemmas.{IsTagSoFar}
use Rattle.rdf_term.proofs.tag.read_tag.Given as goal

abbrev pub invariant-loop-b : goal.invariant-loop-b
invariant-loop-b l = IsTagSoFar l.initial.to l.to l.letters l.b-index
