use Rattle.std.proofs.Common.{◌≡◌, ◌≤◌, ◌<◌, ◌+◌, ◌-◌, ◌/◌, arith, get_or, length, subst, sym}
use Rattle.std.proofs.lemmas.List.{get_or_default}
use Rattle.edge_map.proofs.PackLemmas.{place_by_keys, rise_keys}
use Rattle.edge_map.proofs.search.between.Goals as goal

pub loop-low-preserved-then-keys-middle : goal.loop-low-preserved-then-keys-middle
loop-low-preserved-then-keys-middle c =
    let keys = c.args.keys.now in
    let from = c.args.from.0 in
    let middle = c.loop-low.low + (c.loop-low.high - c.loop-low.low) / 2 in
    let inv = c.loop-low.invariant in
    let within : middle < length keys = let lt = c.loop-low-test.true in omega (arith, lt, inv.within) in
    record {
      order = let lt = c.loop-low-test.true in omega (arith, lt);
      within = inv.within;
      below = λ k d lt.
          let below = subst (λ x. x.0 < from) (get_or_default keys middle _ d within) c.if-keys-middle.true in
          omega (arith, rise_keys keys c.requires.rising k middle d (omega (arith, lt)) within, below);
      above = inv.above;
    }

pub returns-clause-place : goal.returns-clause-place
returns-clause-place c =
    let keys = c.args.keys.now in
    let inv = c.loop-low.invariant in
    let met : c.loop-low.low ≡ c.loop-low.high = let past = c.loop-low-test.false in omega (arith, past, inv.order) in
    place_by_keys c.args.from.0 keys c.loop-low.low (omega (arith, inv.order, inv.within)) inv.below
    (λ d lt. subst (λ i. c.args.from.0 ≤ (get_or keys i d).0) (sym met) (inv.above d (omega (arith, lt, met))))
