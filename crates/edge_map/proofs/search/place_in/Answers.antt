use Rattle.std.proofs.Common.{◌≤◌, arith, subst}
use Rattle.std.proofs.lemmas.List.{get_or_default}
use Rattle.edge_map.proofs.PackLemmas.{place_by_keys}
use Rattle.edge_map.proofs.search.place_in.Goals as goal

pub returns-then-keys-at-clause-place : goal.returns-then-keys-at-clause-place
returns-then-keys-at-clause-place c =
    place_by_keys _ _ _ (omega arith) c.loop-at.invariant (λ d lt. subst (λ k. c.args.from.0 ≤ k.0) (get_or_default c.args.keys.now c.loop-at.at _ d lt) c.if-keys-at.true)

pub returns-then-end-keys-clause-place : goal.returns-then-end-keys-clause-place
returns-then-end-keys-clause-place c =
    let keys = c.args.keys.now in
    let all = c.if-end-keys.true in
    let past = c.loop-at-test.false in
    place_by_keys c.args.from.0 keys c.min-end.result (omega (arith, all)) (λ k d lt. c.loop-at.invariant k d (omega (arith, lt, past))) (λ d lt. absurd (omega (arith, lt, all)))
