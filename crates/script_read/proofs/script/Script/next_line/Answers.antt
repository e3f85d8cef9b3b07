use Rattle.std.proofs.Common.{rules, arith, ◌≡◌, ◌∙◌, sym, ap, false, length}
use Rattle.std.specs.Prelude.{[], Ok}
use Rattle.tn_io.specs.CutterState.{whole_to_come}
use Rattle.script_read.specs.ScriptState.{ScriptState, not_yet}
use Rattle.script_read.proofs.ScriptLemmas.{takes_both, takes_same, next_is, fails, too_long, last_is}
use Rattle.script_read.proofs.script.Script.next_line.Goals as goal

pub returns-in-Some-clause-next : goal.returns-in-Some-clause-next
returns-in-Some-clause-next g c =
    next_is _ _ _ _ c.reads.invariant.takes (sym (ap (λ s. s.ended) c.self.view_is) ∙ c.if-self.false) _ c.in-Some.cut c.in-Some.ensures.still

pub returns-then-self-2-clause-next : goal.returns-then-self-2-clause-next
returns-then-self-2-clause-next g c =
    too_long _ _ _ _ (takes_both _ _ _ _ _ _ c.reads.invariant.takes (takes_same _ _ _ c.in_default.ensures.still)) (sym (ap (λ s. s.ended) c.self.view_is) ∙ c.if-self.false)
    (c.cut.ensures.all c.in_default.is) (sym (ap (λ s. s.over) c.self-in-reads.view_is) ∙ c.if-self-2.true) c.cut.ensures.none_left

pub returns-in_default-refill-clause-next : goal.returns-in_default-refill-clause-next
returns-in_default-refill-clause-next g c =
    let same = c.in_default-refill.ensures.err in
    let takes = takes_both _ _ _ _ _ _ c.reads.invariant.takes (takes_both _ _ _ _ _ _ (takes_same _ _ _ c.in_default.ensures.still) c.refill.ensures.takes) in
    fails _ _ _ _ takes (sym (ap (λ s. s.ended) c.self.view_is) ∙ c.if-self.false)
    (ap (λ (s : ScriptState). s.ahead) same ∙ c.cut.ensures.all c.in_default.is) (ap (λ (s : ScriptState). s.over) same ∙ sym (ap (λ s. s.over) c.self-in-reads.view_is) ∙ c.if-self-2.false)
    (ap (λ (s : ScriptState). whole_to_come s.cutter []) same ∙ c.cut.ensures.none_left)

pub returns-then-not-more-clause-next : goal.returns-then-not-more-clause-next
returns-then-not-more-clause-next g c =
    let none : c.refill.result ≡ Ok false = c.in-Ok.is ∙ ap Ok c.if-not-more.true in
    let same = (c.refill.ensures.none none).0 in
    let takes = takes_both _ _ _ _ _ _ c.reads.invariant.takes (takes_both _ _ _ _ _ _ (takes_same _ _ _ c.in_default.ensures.still) c.refill.ensures.takes) in
    last_is _ _ _ _ takes (sym (ap (λ s. s.ended) c.self.view_is) ∙ c.if-self.false) _
    (ap (λ (s : ScriptState). s.ahead) same ∙ c.cut.ensures.all c.in_default.is) (ap (λ (s : ScriptState). s.over) same ∙ sym (ap (λ s. s.over) c.self-in-reads.view_is) ∙ c.if-self-2.false)
    (c.refill.ensures.none none).1 c.finish.ensures.ahead c.finish.ensures.left c.finish.ensures.ended c.finish.result c.finish.ensures.last

pub reads-preserved : goal.reads-preserved
reads-preserved g c = record {
  takes = takes_both _ _ _ _ _ _ c.reads.invariant.takes (takes_both _ _ _ _ _ _ (takes_same _ _ _ c.in_default.ensures.still) c.refill.ensures.takes);
  open_yet = c.refill.ensures.ended ∙ c.cut.ensures.ended ∙ c.reads.invariant.open_yet;
  fewer = omega (arith, c.refill.ensures.no_more, ap length (c.cut.ensures.all c.in_default.is), c.cut.ensures.left, ap not_yet c.cut.ensures.ended, c.reads.invariant.fewer);
  later = search rules;
}
