use Rattle.std.proofs.Common.{rules, arith, ◌≡◌, ◌∙◌, sym, ap, subst, false, length}
use Rattle.std.specs.Prelude.{[], Ok}
use Rattle.tn_io.specs.CutterState.{whole_to_come}
use Rattle.file_read.specs.ReaderState.{ReaderState, not_yet}
use Rattle.file_read.specs.ReaderCalls.{Takes, EndsAt}
use Rattle.file_read.proofs.ReaderLemmas.{takes_both, takes_same, next_is, fails, too_long, last_is}
use Rattle.file_read.proofs.reader.FileReader.next_line.Goals as goal

pub returns-in-Some-clause-next : goal.returns-in-Some-clause-next
returns-in-Some-clause-next g c =
    next_is _ _ _ _ c.reads.invariant.takes (sym (ap (λ s. s.ended) c.self.view_is) ∙ c.if-self.false) _ c.in-Some.cut c.in-Some.ensures.still

pub returns-then-self-2-clause-next : goal.returns-then-self-2-clause-next
returns-then-self-2-clause-next g c =
    too_long _ _ _ _ (takes_both _ _ _ _ _ c.reads.invariant.takes (takes_same _ _ _ _ c.in_default.ensures.still)) (sym (ap (λ s. s.ended) c.self.view_is) ∙ c.if-self.false)
    (c.cut.ensures.all c.in_default.is) (omega (arith, c.if-self-2.true, ap (λ (s : ReaderState). s.max) c.self-in-reads.view_is, ap (λ (s : ReaderState). s.place) c.self-in-reads.view_is)) c.cut.ensures.none_left

pub returns-in_default-refill-clause-next : goal.returns-in_default-refill-clause-next
returns-in_default-refill-clause-next g c =
    let same = c.in_default-refill.ensures.err in
    let read = subst (λ f. Takes f c.args.name.now c.cut.new.self c.refill.new.self) c.reads.invariant.same c.refill.ensures.takes in
    let takes = takes_both _ _ _ _ _ c.reads.invariant.takes (takes_both _ _ _ _ _ (takes_same _ _ _ _ c.in_default.ensures.still) read) in
    fails _ _ _ _ takes (sym (ap (λ s. s.ended) c.self.view_is) ∙ c.if-self.false) (ap (λ (s : ReaderState). s.ahead) same ∙ c.cut.ensures.all c.in_default.is)
    (omega (arith, c.if-self-2.false, ap (λ (s : ReaderState). s.max) c.self-in-reads.view_is, ap (λ (s : ReaderState). s.place) c.self-in-reads.view_is, ap (λ (s : ReaderState). s.max) same, ap (λ (s : ReaderState). s.place) same))
    (ap (λ (s : ReaderState). whole_to_come s.cutter []) same ∙ c.cut.ensures.none_left)

pub returns-then-not-more-clause-next : goal.returns-then-not-more-clause-next
returns-then-not-more-clause-next g c =
    let none : c.refill.result ≡ Ok false = c.in-Ok.is ∙ ap Ok c.if-not-more.true in
    let same = c.refill.ensures.none none in
    let read = subst (λ f. Takes f c.args.name.now c.cut.new.self c.refill.new.self) c.reads.invariant.same c.refill.ensures.takes in
    let takes = takes_both _ _ _ _ _ c.reads.invariant.takes (takes_both _ _ _ _ _ (takes_same _ _ _ _ c.in_default.ensures.still) read) in
    let at_end = subst (λ f. EndsAt f c.args.name.now c.refill.new.self.place) c.reads.invariant.same
    (subst (λ p. EndsAt (g.F.Files.files c.reads.files) c.args.name.now p) (sym (ap (λ (s : ReaderState). s.place) same)) (c.refill.ensures.at_end none)) in
    last_is _ _ _ _ takes (sym (ap (λ s. s.ended) c.self.view_is) ∙ c.if-self.false) _ (ap (λ (s : ReaderState). s.ahead) same ∙ c.cut.ensures.all c.in_default.is)
    (omega (arith, c.if-self-2.false, ap (λ (s : ReaderState). s.max) c.self-in-reads.view_is, ap (λ (s : ReaderState). s.place) c.self-in-reads.view_is, ap (λ (s : ReaderState). s.max) same, ap (λ (s : ReaderState). s.place) same))
    at_end c.finish.ensures.max c.finish.ensures.ended c.finish.result c.finish.ensures.last

pub reads-preserved : goal.reads-preserved
reads-preserved g c = record {
  takes =
      let read = subst (λ f. Takes f c.args.name.now c.cut.new.self c.refill.new.self) c.reads.invariant.same c.refill.ensures.takes in
      takes_both _ _ _ _ _ c.reads.invariant.takes (takes_both _ _ _ _ _ (takes_same _ _ _ _ c.in_default.ensures.still) read);
  open_yet = c.refill.ensures.ended ∙ c.cut.ensures.ended ∙ c.reads.invariant.open_yet;
  fewer = omega (arith, c.refill.ensures.no_more, ap length (c.cut.ensures.all c.in_default.is), c.cut.ensures.max, c.cut.ensures.place, ap not_yet c.cut.ensures.ended, c.reads.invariant.fewer);
  same = search rules;
  counts = search rules;
  max = search rules;
}
