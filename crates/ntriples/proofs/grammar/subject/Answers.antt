use Rattle.ntriples.proofs.TermLemmas.{subject_iri, subject_label, no_subject}
use Rattle.std.proofs.Common.{◌∙◌}
use Rattle.ntriples.proofs.grammar.subject.Goals as goal

pub returns-in-Some-clause-term : goal.returns-in-Some-clause-term
returns-in-Some-clause-term c = subject_iri c.args.scope.now c.args.bytes.now c.args.to.now c.iri.new.to c.in-Some.text c.in-Some.rest.now c.in-Some.ensures

pub returns-in_err-label-clause-term : goal.returns-in_err-label-clause-term
returns-in_err-label-clause-term c = rw c.from_residual.ensures (no_subject c.args.scope.now c.args.bytes.now c.in_default.ensures.0 c.in_err-label.ensures.0)

pub returns-in_err-label-clause-none : goal.returns-in_err-label-clause-none
returns-in_err-label-clause-none c = rw c.from_residual.ensures (c.in_err-label.ensures.1 ∙ c.in_default.ensures.1)

pub returns-clause-term : goal.returns-clause-term
returns-clause-term c =
    subject_label c.args.scope.now c.args.bytes.now c.args.to.now c.iri.new.to c.label.new.to c.in_ok-label.label c.in_ok-label.rest.now
    c.in_default.ensures.0 c.in_default.ensures.1 c.in_ok-label.ensures
