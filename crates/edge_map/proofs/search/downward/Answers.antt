use Rattle.std.proofs.Common.{◌<◌, ◌-◌, arith, length, subst}
use Rattle.std.proofs.lemmas.List.{get_or_default}
use Rattle.edge_map.proofs.PackLemmas.{rise_keys}
use Rattle.edge_map.proofs.search.downward.Goals as goal

pub between-requires-clause-between : goal.between-requires-clause-between
between-requires-clause-between c =
    let keys = c.args.keys.now in
    let from = c.args.from.0 in
    let inv = c.loop-step.invariant in
    let low = c.loop-step.high - c.loop-step.step in
    let within : low < length keys = let lt = inv.0 in omega (arith, lt) in
    record {
      order = let le = c.loop-step-test.true in let some = inv.1 in omega (arith, le, some);
      within = let lt = inv.0 in omega (arith, lt);
      below = λ k d lt.
          let below = subst (λ x. x.0 < from) (get_or_default keys low _ d within) c.if-keys-high.true in
          omega (arith, rise_keys keys c.requires.rising k low d (omega (arith, lt)) within, below);
      above = λ d lt. inv.2 d;
    }
