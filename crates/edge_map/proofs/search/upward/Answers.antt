use Rattle.std.proofs.Common.{◌≤◌, ◌<◌, ◌+◌, arith, length, subst}
use Rattle.std.proofs.lemmas.List.{get_or_default}
use Rattle.edge_map.proofs.PackLemmas.{rise_keys}
use Rattle.edge_map.proofs.search.upward.Goals as goal

pub between-requires-clause-between : goal.between-requires-clause-between
between-requires-clause-between c =
    let keys = c.args.keys.now in
    let from = c.args.from.0 in
    let inv = c.loop-step.invariant in
    let low = c.loop-step.low in
    let high = c.loop-step.low + c.loop-step.step in
    let within : high < length keys = let lt = c.loop-step-test.true in let there = inv.0 in omega (arith, lt, there) in
    record {
      order = let some = inv.1 in omega (arith, some);
      within = omega (arith, within);
      below = λ k d lt. let below = inv.2 d in omega (arith, rise_keys keys c.requires.rising k low d (omega (arith, lt)) inv.0, below);
      above = λ d lt. subst (λ x. from ≤ x.0) (get_or_default keys high _ d within) c.if-keys-low.true;
    }

pub between-requires-2-clause-between : goal.between-requires-2-clause-between
between-requires-2-clause-between c =
    let keys = c.args.keys.now in
    let inv = c.loop-step.invariant in
    let low = c.loop-step.low in
    record {
      order = let there = inv.0 in omega (arith, there);
      within = omega arith;
      below = λ k d lt. let below = inv.2 d in omega (arith, rise_keys keys c.requires.rising k low d (omega (arith, lt)) inv.0, below);
      above = λ d lt. absurd (omega (arith, lt));
    }
