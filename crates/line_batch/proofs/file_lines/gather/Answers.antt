use Rattle.std.proofs.Common.{arith, ◌≡◌, ◌<◌, ◌+◌, ◌∙◌, ap, subst, refl}
use Rattle.run_model.specs.Sayings.{says}
use Rattle.std.specs.Prelude.{Ok, Err, IfOk, IfSome, OnOk}
use Rattle.file_read.specs.ReaderState.{to_go}
use Rattle.line_batch.specs.Batches.{HasOneMore}
use Rattle.line_batch.proofs.LoadLemmas.{HasGathered, next_in, has_at, gather_starts, gather_line, gather_whole, gather_fails, gather_long, gather_refused, still_going}
use Rattle.line_batch.proofs.file_lines.gather.Goals as goal

pub lines-init : goal.lines-init
lines-init g c = record {
  ready = c.requires.ready;
  gathered = gather_starts _ _ _ _ c.args.reader.now.max _ _ c.begin.ensures;
  going = λ change none. none.1;
  few = omega (arith, ap to_go c.begin.ensures);
  same = refl;
  counts = refl;
  max = ap (λ s. s.max) c.begin.ensures;
}

pub returns-in-Ok-None-clause-gathers : goal.returns-in-Ok-None-clause-gathers
returns-in-Ok-None-clause-gathers g c = λ A change has none.
    gather_whole _ _ _ _ _ _ _ _ _ c.lines.invariant.gathered _ A change (has_at _ (c.next_line.ensures.max ∙ c.lines.invariant.max) has) none
    (next_in c.lines.invariant.same (c.in-Ok-None.is ∙ ap Ok c.in-Ok-None.field-0-is) c.next_line.ensures.next)

pub returns-in-Err-Read-clause-gathers : goal.returns-in-Err-Read-clause-gathers
returns-in-Err-Read-clause-gathers g c = λ A change has none. (
  c.abandon.ensures _ _ _ (c.lines.invariant.gathered.lines change none),
  gather_fails _ _ _ _ _ _ _ _ _ c.lines.invariant.gathered _ A change (has_at _ (c.next_line.ensures.max ∙ c.lines.invariant.max) has) none (c.lines.invariant.going change none)
      (next_in c.lines.invariant.same (c.in-Err-Read.is ∙ ap Err c.in-Err-Read.field-0-is) c.next_line.ensures.next),
)

pub returns-in-Err-Long-clause-gathers : goal.returns-in-Err-Long-clause-gathers
returns-in-Err-Long-clause-gathers g c = λ A change has none. (
  c.abandon-in-Err-Long.ensures _ _ _ (c.lines.invariant.gathered.lines change none),
  gather_long _ _ _ _ _ _ _ _ _ c.lines.invariant.gathered _ A change (has_at _ (c.next_line.ensures.max ∙ c.lines.invariant.max) has) none (c.lines.invariant.going change none)
      (next_in c.lines.invariant.same (c.in-Err-Long.is ∙ ap Err c.in-Err-Long.field-0-is) c.next_line.ensures.next),
)

pub lines-preserved : goal.lines-preserved
lines-preserved g c =
    let is = c.in-Ok-Some.is ∙ ap Ok c.in-Ok-Some.field-0-is in
    let less : to_go c.next_line.new.self < to_go c.lines.reader = subst (λ f. IfOk f (λ o. IfSome o (λ _. to_go c.next_line.new.self < to_go c.lines.reader))) is c.next_line.ensures.fewer in
    let told : g.F.Files.faults c.next_line.new.files ≡ g.F.Files.faults c.lines.files = subst (λ f. OnOk f (g.F.Files.faults c.next_line.new.files ≡ g.F.Files.faults c.lines.files)) is c.next_line.ensures.cause.told in
    record {
      ready = c.with_line.ensures.ready;
      gathered = gather_line _ _ _ _ _ _ _ _ _ c.lines.invariant.gathered _ c.in-Ok-Some.cut _ _
          (next_in c.lines.invariant.same is c.next_line.ensures.next)
          (subst (λ l. HasOneMore (c.lines.number + 1) (says c.args.scope.now l) c.lines.store c.lines.batch c.with_line.new.store c.with_line.result) c.told_line-line.ensures.line c.with_line.ensures.more);
      going = λ change none. still_going _ c.in_default.not-Refused;
      few = omega (arith, c.lines.invariant.few, less);
      same = c.next_line.ensures.same ∙ c.lines.invariant.same;
      counts = told ∙ c.lines.invariant.counts;
      max = c.next_line.ensures.max ∙ c.lines.invariant.max;
    }

pub returns-in-Refused-clause-gathers : goal.returns-in-Refused-clause-gathers
returns-in-Refused-clause-gathers g c = λ A change has none.
    let gathered = gather_line _ _ _ _ _ _ _ _ _ c.lines.invariant.gathered _ c.in-Ok-Some.cut _ _
    (next_in c.lines.invariant.same (c.in-Ok-Some.is ∙ ap Ok c.in-Ok-Some.field-0-is) c.next_line.ensures.next)
    (subst (λ l. HasOneMore (c.lines.number + 1) (says c.args.scope.now l) c.lines.store c.lines.batch c.with_line.new.store c.with_line.result) c.told_line-line.ensures.line c.with_line.ensures.more) in
    gather_refused _ _ _ _ _ _ _ _ _
    (subst (λ b. HasGathered (g.F.Files.files c.args.files.now) c.args.scope.now c.args.name.now c.next_line.new.self c.args.store.now c.args.batch (c.lines.number + 1) c.with_line.new.store b) c.in-Refused.is gathered)
    A change (has_at _ (c.next_line.ensures.max ∙ c.lines.invariant.max) has) none
