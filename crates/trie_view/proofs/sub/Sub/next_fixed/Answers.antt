use Rattle.std.proofs.Common.{◌≡◌, ◌+◌, ◌<◌, ◌≤◌, ℕ, is_some, arith, refl, sym, ◌∙◌, ap}
use Rattle.trie_depth.specs.Masks.{n_positions}
use Rattle.slice_cases.specs.TakenLaws.{length-taken}
use Rattle.trie_view.specs.Subs.{sub_depth, sub_set}
use Rattle.trie_view.specs.PlaceLaws.{depth_high, known_deep, known_ids}
use Rattle.trie_view.proofs.FixLemmas.{count_taken}
use Rattle.trie_view.proofs.SeekLemmas.{not_there, there_at_one, none_within_more, none_within_on, none_from_on, none_past}
use Rattle.trie_view.proofs.sub.Sub.next_fixed.Goals as goal

pub returns-in_err-key-clause-none : goal.returns-in_err-key-clause-none
returns-in_err-key-clause-none g c _ k le some =
    let sub = c.args.self in
    not_there (sub_set sub) (sub_depth sub) c.args.mask.0 c.lowest_of-position.result (known_deep sub.tables.now sub.place sub.known) (depth_high sub.place) c.requires.fits c.lowest_of-position.ensures k (c.in_err-key.ensures.none refl k le) some

pub returns-then-order-eq1-clause-there : goal.returns-then-order-eq1-clause-there
returns-then-order-eq1-clause-there g c =
    let sub = c.args.self in
    let one : n_positions c.args.mask.0 ≡ 1 =
    let n = count_taken c.order.result c.n_left.result (sub_depth sub) c.args.mask.0 c.order.ensures c.n_left.ensures c.order.result.n_taken refl in
    let is_one = c.if-order-eq1.true in
    omega (arith, length-taken (sub_depth sub) c.args.mask.0 (depth_high sub.place) c.requires.fits.1) in
    there_at_one (sub_set sub) (sub_depth sub) c.args.mask.0 c.lowest_of-position.result (known_deep sub.tables.now sub.place sub.known) (depth_high sub.place) c.requires.fits c.lowest_of-position.ensures one c.in_ok-key.key.0 c.in_ok-key.ensures.there

pub returns-then-order-eq1-clause-least : goal.returns-then-order-eq1-clause-least
returns-then-order-eq1-clause-least g c k le lt some =
    let sub = c.args.self in
    not_there (sub_set sub) (sub_depth sub) c.args.mask.0 c.lowest_of-position.result (known_deep sub.tables.now sub.place sub.known) (depth_high sub.place) c.requires.fits c.lowest_of-position.ensures k (c.in_ok-key.ensures.least k le lt) some

pub loop-mask-init : goal.loop-mask-init
loop-mask-init g c =
    let sub = c.args.self in
    ((λ k le lt some. not_there (sub_set sub) (sub_depth sub) c.args.mask.0 c.lowest_of-position.result (known_deep sub.tables.now sub.place sub.known) (depth_high sub.place) c.requires.fits c.lowest_of-position.ensures k (c.in_ok-key.ensures.least k le lt) some), c.in_ok-key.ensures.from, (let t = c.in_ok-key.ensures.ticks in omega arith))

pub returns-then-key-clause-none : goal.returns-then-key-clause-none
returns-then-key-clause-none g c _ k le some =
    let sub = c.args.self in
    none_past (sub_set sub) (sub_depth sub) c.args.mask.0 c.lowest_of-position.result (known_deep sub.tables.now sub.place sub.known) (depth_high sub.place) c.requires.fits c.lowest_of-position.ensures c.args.from.0 (c.loop-mask.key.0 + 1) (known_ids sub.tables.now sub.place sub.known) (none_within_more (sub_set sub) (sub_depth sub) c.args.mask.0 c.lowest_of-position.result (known_deep sub.tables.now sub.place sub.known) (depth_high sub.place) c.requires.fits c.lowest_of-position.ensures c.args.from.0 c.loop-mask.key.0 c.loop-mask.invariant.0 (c.fixed.ensures.none.0 c.loop-mask-test.ensures)) (let last = c.if-key.true in omega arith) k le some

pub returns-in_err-key-2-clause-none : goal.returns-in_err-key-2-clause-none
returns-in_err-key-2-clause-none g c _ k le some =
    let sub = c.args.self in
    none_from_on (sub_set sub) (sub_depth sub) c.args.mask.0 c.lowest_of-position.result (known_deep sub.tables.now sub.place sub.known) (depth_high sub.place) c.requires.fits c.lowest_of-position.ensures c.args.from.0 (c.loop-mask.key.0 + 1) (none_within_more (sub_set sub) (sub_depth sub) c.args.mask.0 c.lowest_of-position.result (known_deep sub.tables.now sub.place sub.known) (depth_high sub.place) c.requires.fits c.lowest_of-position.ensures c.args.from.0 c.loop-mask.key.0 c.loop-mask.invariant.0 (c.fixed.ensures.none.0 c.loop-mask-test.ensures)) (λ q low. c.in_err-key-2.ensures.none refl q low) k le some

pub loop-mask-preserved : goal.loop-mask-preserved
loop-mask-preserved g c =
    let sub = c.args.self in
    (none_within_on (sub_set sub) (sub_depth sub) c.args.mask.0 c.lowest_of-position.result (known_deep sub.tables.now sub.place sub.known) (depth_high sub.place) c.requires.fits c.lowest_of-position.ensures c.args.from.0 (c.loop-mask.key.0 + 1) c.in_ok-key-2.key.0 (none_within_more (sub_set sub) (sub_depth sub) c.args.mask.0 c.lowest_of-position.result (known_deep sub.tables.now sub.place sub.known) (depth_high sub.place) c.requires.fits c.lowest_of-position.ensures c.args.from.0 c.loop-mask.key.0 c.loop-mask.invariant.0 (c.fixed.ensures.none.0 c.loop-mask-test.ensures)) (λ q low lt. c.in_ok-key-2.ensures.least q low lt), (let f = c.in_ok-key-2.ensures.from in let h = c.loop-mask.invariant.1 in omega arith), (let t = c.in_ok-key-2.ensures.ticks in let u = c.fixed.ensures.ticks in let v = c.loop-mask.invariant.2 in omega arith))
