use Rattle.std.proofs.Common.{◌≡◌, ◌+◌, ◌*◌, ◌≤◌, ◌<◌, ℕ, length, slice_index, is_some, arith, sym, subst, ap, ◌∙◌}
use Rattle.std.specs.Ordering.{nat_cmp}
use Rattle.hypertrie_model.specs.Sets.{empty}
use Rattle.hypertrie_model.specs.Slices.{slice}
use Rattle.slice_cases.specs.Cases.{taken_of, padded}
use Rattle.trie_view.specs.Subs.{sub_depth, sub_set}
use Rattle.trie_view.specs.PlaceLaws.{depth_high, known_deep}
use Rattle.trie_view.proofs.FixLemmas.{way_begins, way_within, way_lost, way_on, way_ends, way_some, way_filled, way_depth, count_taken, next_taken}
use Rattle.trie_view.proofs.sub.Sub.fixed.Goals as goal

pub loop-turn-init : goal.loop-turn-init
loop-turn-init g c =
    let sub = c.args.self in
    (way_begins (sub_set sub) (sub_depth sub) c.args.mask.0 c.args.key.0 (depth_high sub.place) c.requires.fits (known_deep sub.tables.now sub.place sub.known), omega arith, omega arith)

pub slice_at-requires : goal.slice_at-requires
slice_at-requires g c =
    let whole = c.args.self in
    let here = c.loop-turn.sub in
    let d = sub_depth whole in
    let m = c.args.mask.0 in
    let turn = c.loop-turn.turn in
    let all = count_taken c.order-case.result c.n_left.result d m c.order-case.ensures c.n_left.ensures c.from-turn-end.result c.from-turn-end.ensures in
    let more : turn < length (taken_of d m) = let lt = c.loop-turn-test.true in omega arith in
    let p = next_taken c.order-case.result c.n_left.result d m c.order-case.ensures c.n_left.ensures turn c.from.result c.from.ensures in
    record { within = subst (λ q. q < sub_depth here) (sym p) (way_within (sub_set whole) d m c.args.key.0 (depth_high whole.place) c.requires.fits (sub_set here) (sub_depth here) turn c.loop-turn.invariant.0 more) }

pub returns-in_err-sub-clause-none : goal.returns-in_err-sub-clause-none
returns-in_err-sub-clause-none g c =
    let whole = c.args.self in
    let here = c.loop-turn.sub in
    let d = sub_depth whole in
    let m = c.args.mask.0 in
    let turn = c.loop-turn.turn in
    let all = count_taken c.order-case.result c.n_left.result d m c.order-case.ensures c.n_left.ensures c.from-turn-end.result c.from-turn-end.ensures in
    let more : turn < length (taken_of d m) = let lt = c.loop-turn-test.true in omega arith in
    let p = next_taken c.order-case.result c.n_left.result d m c.order-case.ensures c.n_left.ensures turn c.from.result c.from.ensures in (
      λ _. way_lost (sub_set whole) d m c.args.key.0 (depth_high whole.place) c.requires.fits (sub_set here) (sub_depth here) turn c.loop-turn.invariant.0 more
          (ap (λ q. slice nat_cmp (sub_set here) q c.args.key.0) (sym p) ∙ c.slice_at.ensures.none.0 (ap is_some c.in_err-sub.was)),
      λ _. ap is_some c.from_residual.ensures,
    )

pub loop-turn-preserved : goal.loop-turn-preserved
loop-turn-preserved g c =
    let whole = c.args.self in
    let here = c.loop-turn.sub in
    let d = sub_depth whole in
    let m = c.args.mask.0 in
    let turn = c.loop-turn.turn in
    let all = count_taken c.order-case.result c.n_left.result d m c.order-case.ensures c.n_left.ensures c.from-turn-end.result c.from-turn-end.ensures in
    let more : turn < length (taken_of d m) = let lt = c.loop-turn-test.true in omega arith in
    let p = next_taken c.order-case.result c.n_left.result d m c.order-case.ensures c.n_left.ensures turn c.from.result c.from.ensures in
    let known = c.in_ok-sub.ensures in (
      way_on (sub_set whole) d m c.args.key.0 (depth_high whole.place) c.requires.fits (sub_set here) (sub_depth here) turn c.loop-turn.invariant.0 more (sub_set c.in_ok-sub.sub) (sub_depth c.in_ok-sub.sub)
          (known.some ∙ ap (λ q. slice nat_cmp (sub_set here) q c.args.key.0) p)
          (λ none. let f = known.none.1 (ap (λ q. slice nat_cmp (sub_set here) q c.args.key.0) p ∙ none) in cc)
          known.depth,
      (let t = c.slice_at.ensures.ticks in omega (arith, c.loop-turn.invariant.1)),
      (let t = c.slice_at.ensures.few in omega (arith, c.loop-turn.invariant.2)),
    )

pub returns-clause-ticks : goal.returns-clause-ticks
returns-clause-ticks g c =
    let whole = c.args.self in
    let here = c.loop-turn.sub in
    let d = sub_depth whole in
    let m = c.args.mask.0 in
    let turn = c.loop-turn.turn in
    let all = count_taken c.order-case.result c.n_left.result d m c.order-case.ensures c.n_left.ensures c.from-turn-end.result c.from-turn-end.ensures in
    let done : turn ≡ length (taken_of d m) = let ge = c.loop-turn-test.false in let le = c.loop-turn.auto.turn-end in omega arith in
    omega (arith, c.loop-turn.invariant.1, way_some (sub_set whole) d m c.args.key.0 (depth_high whole.place) c.requires.fits (sub_set here) (sub_depth here) turn c.loop-turn.invariant.0 done)
