use Rattle.std.proofs.Common.{◌∙◌, sym, ap}
use Rattle.ntriples_model.specs.Line.{predicate_at, object_at}
use Rattle.ntriples.proofs.TermLemmas.{no_triple_subject, no_triple_predicate, no_triple_object, no_triple_end, places_read}
use Rattle.ntriples.proofs.grammar.triple.Goals as goal

pub returns-in_err-s : goal.returns-in_err-s
returns-in_err-s c = rw c.from_residual.ensures (no_triple_subject c.args.scope.now c.args.bytes.now c.in_err-s.ensures.term)

pub returns-in_err-p : goal.returns-in_err-p
returns-in_err-p c =
    rw c.from_residual-in_err-p.ensures
    (no_triple_predicate c.args.scope.now c.args.bytes.now c.in_ok-s.rest.now _ c.in_ok-s.ensures.term.is (ap predicate_at (sym c.after_blanks.ensures.rest) ∙ c.in_err-p.ensures))

pub returns-in_err-o : goal.returns-in_err-o
returns-in_err-o c =
    rw c.from_residual-in_err-o.ensures
    (no_triple_object c.args.scope.now c.args.bytes.now c.in_ok-s.rest.now c.in_ok-p.rest.now _ _ c.in_ok-s.ensures.term.is (ap predicate_at (sym c.after_blanks.ensures.rest) ∙ c.in_ok-p.ensures.is)
    (ap (object_at c.args.scope.now) (sym c.after_blanks-2.ensures.rest) ∙ c.in_err-o.ensures))

pub returns-then-not-is_end : goal.returns-then-not-is_end
returns-then-not-is_end c =
    no_triple_end c.args.scope.now c.args.bytes.now c.in_ok-s.rest.now c.in_ok-p.rest.now c.in_ok-o.rest.now _ _ _ c.in_ok-s.ensures.term.is (ap predicate_at (sym c.after_blanks.ensures.rest) ∙ c.in_ok-p.ensures.is)
    (ap (object_at c.args.scope.now) (sym c.after_blanks-2.ensures.rest) ∙ c.in_ok-o.ensures.is) (sym c.is_end.ensures ∙ c.if-not-is_end.true)

pub returns : goal.returns
returns c =
    places_read c.args.scope.now c.args.bytes.now c.in_ok-s.rest.now c.in_ok-p.rest.now c.in_ok-o.rest.now c.after_blanks.result.now c.after_blanks-2.result.now
    c.args.to.now c.subject.new.to c.predicate.new.to c.object.new.to c.in_ok-s.s c.in_ok-p.p c.in_ok-o.o c.in_ok-s.ensures.term c.after_blanks.ensures.rest c.in_ok-p.ensures
    c.after_blanks-2.ensures.rest c.in_ok-o.ensures (sym c.is_end.ensures ∙ c.if-not-is_end.false)
