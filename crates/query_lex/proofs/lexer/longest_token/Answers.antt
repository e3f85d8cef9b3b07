use Rattle.std.proofs.Common.{◌∙◌, ◌<◌, length, sym, subst, arith, None}
use Rattle.query_lex.specs.declared.state.State.TheVariants as state
use Rattle.query_lex.proofs.TokenReading.{IsTokenSoFar, token_begins, token_goes_on, token_stops, token_at_end, barren_stops, run_ends, none_left, none_goes_on}
use Rattle.query_lex.proofs.lexer.longest_token.Goals as goal

pub loop-c-init : goal.loop-c-init
loop-c-init c =
    (c.utf8.text, subst (IsTokenSoFar c.args.text.now state.Start None) (sym c.chars-ahead.ensures.rest) (token_begins c.args.text.now c.utf8.text), c.chars-ahead.ensures.rest, c.requires)

pub returns-in_default-step-clause-found : goal.returns-in_default-step-clause-found
returns-in_default-step-clause-found c =
    token_stops c.args.text.now c.loop-c.state c.loop-c.found _ _ c.in-Some.c c.loop-c.invariant.1 c.in-Some.ensures.steps.0 c.in_default-step.ensures

pub returns-in_default-step-clause-barren : goal.returns-in_default-step-clause-barren
returns-in_default-step-clause-barren c =
    run_ends c.args.text.now c.loop-c.state c.loop-c.found _ c.loop-c.barren c.end_run.new.barren c.loop-c.invariant.1 c.loop-c.invariant.3
    (none_goes_on c.loop-c.state _ _ c.in-Some.c c.loop-c.invariant.1.looks.utf8 c.in-Some.ensures.steps.0 c.in_default-step.ensures)
    (rw (← c.loop-c.invariant.2) at c.end_run.ensures)

pub returns-then-rest-barren-clause-found : goal.returns-then-rest-barren-clause-found
returns-then-rest-barren-clause-found c =
    let goes = token_goes_on c.args.text.now c.loop-c.state c.in-Some-step.next c.loop-c.found c.or_here-found.result _ _ c.in-Some.c c.loop-c.invariant.1 c.in-Some.ensures.steps.0 c.in-Some-step.ensures
    (rw c.as_str-rest.ensures at c.or_here-found.ensures) in
    let some : c.loop-c.barren < length c.as_str-rest.result.now = omega arith in
    barren_stops c.args.text.now c.in-Some-step.next c.or_here-found.result _ c.loop-c.barren goes c.loop-c.invariant.3 (sym c.is_in_prefix.ensures ∙ c.if-is_in_prefix.true) (rw c.as_str-rest.ensures at some)

pub loop-c-preserved : goal.loop-c-preserved
loop-c-preserved c = (
  c.as_str-rest.utf8,
  token_goes_on c.args.text.now c.loop-c.state c.in-Some-step.next c.loop-c.found c.or_here-found.result _ _ c.in-Some.c c.loop-c.invariant.1 c.in-Some.ensures.steps.0 c.in-Some-step.ensures
      (rw c.as_str-rest.ensures at c.or_here-found.ensures),
  sym c.as_str-rest.ensures,
  c.loop-c.invariant.3,
)

pub returns-clause-found : goal.returns-clause-found
returns-clause-found c = token_at_end c.args.text.now c.loop-c.state c.loop-c.found _ c.loop-c.invariant.1 c.in_default.ensures.steps.0.0

pub returns-clause-barren : goal.returns-clause-barren
returns-clause-barren c =
    run_ends c.args.text.now c.loop-c.state c.loop-c.found _ c.loop-c.barren c.end_run-2.new.barren c.loop-c.invariant.1 c.loop-c.invariant.3
    (none_left c.loop-c.state _ c.in_default.ensures.steps.0.0) (rw (← c.loop-c.invariant.2) at c.end_run-2.ensures)
