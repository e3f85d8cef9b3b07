use Rattle.std.proofs.Common.{sym, subst}
use Rattle.query_tokens.specs.Front.{gap_at}
use Rattle.std.specs.Str.{chars}
use Rattle.query_lex.specs.Reading.{IsBehind}
use Rattle.query_lex.specs.declared.gap.Gap.TheVariants as gap
use Rattle.query_lex.proofs.GapReading.{IsGapSoFar, gap_begins, gap_goes_on, gap_stops, gap_at_end}
use Rattle.query_lex.proofs.lexer.behind_gap.Goals as goal

pub loop-c-init : goal.loop-c-init
loop-c-init c =
    (c.utf8.text, subst (IsGapSoFar c.args.text.now gap.Blanks) (sym c.chars-ahead.ensures.rest) (gap_begins c.args.text.now c.utf8.text), c.chars-ahead.ensures.rest)

pub returns-in_default-step : goal.returns-in_default-step
returns-in_default-step c =
    subst (IsBehind c.args.text.now (gap_at (chars c.args.text.now))) c.loop-c.invariant.2
    (gap_stops c.args.text.now c.loop-c.gap _ _ c.in-Some.c c.loop-c.invariant.1 c.in-Some.ensures.steps.0 c.in_default-step.ensures)

pub loop-c-preserved : goal.loop-c-preserved
loop-c-preserved c =
    (c.as_str-rest.utf8, gap_goes_on c.args.text.now c.loop-c.gap c.in-Some-step.next _ _ c.in-Some.c c.loop-c.invariant.1 c.in-Some.ensures.steps.0 c.in-Some-step.ensures, sym c.as_str-rest.ensures)

pub returns : goal.returns
returns c =
    subst (IsBehind c.args.text.now (gap_at (chars c.args.text.now))) c.loop-c.invariant.2
    (gap_at_end c.args.text.now c.loop-c.gap _ c.loop-c.invariant.1 c.in_default.ensures.steps.0.0)
