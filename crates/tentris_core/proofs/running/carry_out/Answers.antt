use Rattle.std.proofs.Common.{rules, arith, ◌∙◌, refl, sym, ap, subst}
use Rattle.std.specs.Prelude.{Ok, Err}
use Rattle.tentris_core.specs.Puts.{IsPassedOn}
use Rattle.line_batch.specs.Sound.{IsBetweenCommands}
use Rattle.tentris_core.proofs.RunLemmas.{ready, run_starts, run_finishes, run_been, run_fails, run_too_long, run_line, run_answered, run_cut_off, next_at, takes_at, ends_in, taken_in, front_in, cut_in, around_same, shown_last, seen_at, settled_at}
use Rattle.tentris_core.proofs.running.carry_out.Goals as goal

pub lines-init : goal.lines-init
lines-init g c = record {
  same_sink = refl;
  empty = c.requires.empty;
  ran = run_starts _ _ _ _ c.requires.sound c.requires.start;
  sorted = refl;
  most = refl;
  files = refl;
  read_faults = search rules;
  write_faults = search rules;
}

pub finish-requires-clause-been : goal.finish-requires-clause-been
finish-requires-clause-been g c = run_been _ _ _ _ _ _ _ _ c.lines.invariant.ran

pub returns-in-Ok-None-clause-ends : goal.returns-in-Ok-None-clause-ends
returns-in-Ok-None-clause-ends g c =
    let been = run_been _ _ _ _ _ _ _ _ c.lines.invariant.ran in
    let left = c.finish.ensures.store been in
    ends_in c.finish.result _ _ _ _ _ _ left
    (run_finishes _ _ _ _ _ _ _ _ c.lines.invariant.ran _ _ c.finish.result (next_at _ _ (c.in-Ok-None.is ∙ ap Ok c.in-Ok-None.field-0-is) c.next_line.ensures.next) c.finish.ensures.ends
    (shown_last _ _ _ _ _ left c.finish.ensures.shown) refl)

pub returns-in-Err-Read-clause-ends : goal.returns-in-Err-Read-clause-ends
returns-in-Err-Read-clause-ends g c =
    taken_in (c.abandon.ensures _ _ c.lines.invariant.ran.is_at)
    (run_fails _ _ _ _ _ _ _ _ c.lines.invariant.ran _ _ (next_at _ _ (c.in-Err-Read.is ∙ ap Err c.in-Err-Read.field-0-is) c.next_line.ensures.next))

pub returns-in-Err-TooLong-clause-ends : goal.returns-in-Err-TooLong-clause-ends
returns-in-Err-TooLong-clause-ends g c =
    front_in (c.abandon-in-Err-TooLong.ensures _ _ c.lines.invariant.ran.is_at)
    (run_too_long _ _ _ _ _ _ _ _ c.lines.invariant.ran _ _ (next_at _ _ (c.in-Err-TooLong.is ∙ ap Err c.in-Err-TooLong.field-0-is) c.next_line.ensures.next))

pub lines-preserved-in-GoesOn : goal.lines-preserved-in-GoesOn
lines-preserved-in-GoesOn g c =
    let same = around_same c.lines.invariant.sorted c.lines.invariant.most c.lines.invariant.files in
    record {
      same_sink = c.take_line-next.ensures.same_sink ∙ c.lines.invariant.same_sink;
      empty = subst (λ o. IsPassedOn o c.take_line-next.new.out) c.in-GoesOn.is c.take_line-next.ensures.empty;
      ran =
          run_line _ _ _ _ _ _ _ _ c.lines.invariant.ran _ _ c.in-Ok-Some.cut (next_at _ _ (c.in-Ok-Some.is ∙ ap Ok c.in-Ok-Some.field-0-is) c.next_line.ensures.next) _ _
          (takes_at _ _ _ _ c.told_line-line.ensures.line c.in-GoesOn.is (c.take_line-next.ensures.takes _ _ _ same c.lines.invariant.ran.sound c.lines.invariant.ran.is_at)) refl;
      sorted = c.take_line-next.ensures.sorted ∙ c.lines.invariant.sorted;
      most = c.take_line-next.ensures.most ∙ c.lines.invariant.most;
      files = c.take_line-next.ensures.files ∙ c.lines.invariant.files;
      read_faults = search rules;
      write_faults = omega (arith, c.take_line-next.ensures.cause.later, c.lines.invariant.write_faults);
    }

pub seen-requires : goal.seen-requires
seen-requires g c =
    let same = around_same c.lines.invariant.sorted c.lines.invariant.most c.lines.invariant.files in
    let taken = takes_at _ _ _ _ c.told_line-line.ensures.line c.in-Answered.is (c.take_line-next.ensures.takes _ _ _ same c.lines.invariant.ran.sound c.lines.invariant.ran.is_at) in
    record { settled = settled_at _ _ taken.leads.0 taken.is_at }

pub lines-preserved : goal.lines-preserved
lines-preserved g c =
    let same = around_same c.lines.invariant.sorted c.lines.invariant.most c.lines.invariant.files in
    let taken = takes_at _ _ _ _ c.told_line-line.ensures.line c.in-Answered.is (c.take_line-next.ensures.takes _ _ _ same c.lines.invariant.ran.sound c.lines.invariant.ran.is_at) in
    record {
      same_sink = c.take_line-next.ensures.same_sink ∙ c.lines.invariant.same_sink;
      empty = subst (λ o. IsPassedOn o c.take_line-next.new.out) c.in-Answered.is c.take_line-next.ensures.empty;
      ran =
          run_answered _ _ _ _ _ _ _ _ c.lines.invariant.ran _ _ c.in-Ok-Some.cut (next_at _ _ (c.in-Ok-Some.is ∙ ap Ok c.in-Ok-Some.field-0-is) c.next_line.ensures.next) _ _ _ c.in-Answered.refusal refl
          taken (seen_at _ _ _ _ taken.leads.0 taken.is_at c.seen.ensures.shown);
      sorted = c.take_line-next.ensures.sorted ∙ c.lines.invariant.sorted;
      most = c.take_line-next.ensures.most ∙ c.lines.invariant.most;
      files = c.take_line-next.ensures.files ∙ c.lines.invariant.files;
      read_faults = search rules;
      write_faults = omega (arith, c.take_line-next.ensures.cause.later, c.lines.invariant.write_faults);
    }

pub seen-requires-in-Cut : goal.seen-requires-in-Cut
seen-requires-in-Cut g c =
    let same = around_same c.lines.invariant.sorted c.lines.invariant.most c.lines.invariant.files in
    let taken = takes_at _ _ _ _ c.told_line-line.ensures.line c.in-Cut.is (c.take_line-next.ensures.takes _ _ _ same c.lines.invariant.ran.sound c.lines.invariant.ran.is_at) in
    record { settled = settled_at _ _ taken.leads.0 taken.is_at }

pub abandon-requires-in-Cut : goal.abandon-requires-in-Cut
abandon-requires-in-Cut g c =
    let same = around_same c.lines.invariant.sorted c.lines.invariant.most c.lines.invariant.files in
    let taken = takes_at _ _ _ _ c.told_line-line.ensures.line c.in-Cut.is (c.take_line-next.ensures.takes _ _ _ same c.lines.invariant.ran.sound c.lines.invariant.ran.is_at) in
    record { ready = ready _ _ _ _ taken.leads.0.carries.sound taken.is_at }

pub returns-in-Cut-clause-sound : goal.returns-in-Cut-clause-sound
returns-in-Cut-clause-sound g c =
    let same = around_same c.lines.invariant.sorted c.lines.invariant.most c.lines.invariant.files in
    let taken = takes_at _ _ _ _ c.told_line-line.ensures.line c.in-Cut.is (c.take_line-next.ensures.takes _ _ _ same c.lines.invariant.ran.sound c.lines.invariant.ran.is_at) in
    subst (IsBetweenCommands g.M.Mix.mixed) (sym (c.abandon-in-Cut.ensures _ _ taken.is_at)) taken.leads.0.carries.sound

pub returns-in-Cut-clause-ends : goal.returns-in-Cut-clause-ends
returns-in-Cut-clause-ends g c =
    let same = around_same c.lines.invariant.sorted c.lines.invariant.most c.lines.invariant.files in
    let taken = takes_at _ _ _ _ c.told_line-line.ensures.line c.in-Cut.is (c.take_line-next.ensures.takes _ _ _ same c.lines.invariant.ran.sound c.lines.invariant.ran.is_at) in
    cut_in (c.abandon-in-Cut.ensures _ _ taken.is_at)
    (run_cut_off _ _ _ _ _ _ _ _ c.lines.invariant.ran _ _ c.in-Ok-Some.cut (next_at _ _ (c.in-Ok-Some.is ∙ ap Ok c.in-Ok-Some.field-0-is) c.next_line.ensures.next) _ _
    taken (seen_at _ _ _ _ taken.leads.0 taken.is_at c.seen-in-Cut.ensures.shown))

pub returns-in-Ok-None-clause-sound : goal.returns-in-Ok-None-clause-sound
returns-in-Ok-None-clause-sound g c =
    let been = run_been _ _ _ _ _ _ _ _ c.lines.invariant.ran in
    subst (IsBetweenCommands g.M.Mix.mixed) (sym (c.finish.ensures.store been)) been.sound
