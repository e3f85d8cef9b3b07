use Rattle.ntriples.proofs.TermLemmas.{predicate_read, no_predicate}
use Rattle.ntriples.proofs.grammar.predicate.Goals as goal

pub returns-in_err-text : goal.returns-in_err-text
returns-in_err-text c = rw c.from_residual.ensures (no_predicate c.args.bytes.now c.in_err-text.ensures.0)

pub returns : goal.returns
returns c = predicate_read c.args.bytes.now c.args.to.now c.iri.new.to c.in_ok-text.text c.in_ok-text.rest.now c.in_ok-text.ensures
