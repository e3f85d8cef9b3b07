use Rattle.std.proofs.Common.{◌+◌, ◌-◌, drop, subst, sym, arith}
use Rattle.trie_context.specs.Holds.{at_depth, nothing, CountsRiseBy, RowsStay}
use Rattle.trie_context.specs.Kept.{AreMoved}
use Rattle.trie_context.specs.MoveLaws.{counts_on, rows_as_before, rows_stay_on}
use Rattle.trie_change.specs.Rooms.{changes_lead}
use Rattle.trie_change.proofs.HandLemmas.{hand_begins, hand_ends, hand_none, hand_held, hand_on}
use Rattle.trie_change.proofs.hand.release_changes.Goals as goal
use Rattle.trie_change.proofs.hand.release_changes.Goals.{in-Some, in_default}

pub loop-edge-init : goal.loop-edge-init
loop-edge-init g c = (
  hand_begins g.M.Mix.mixed (g.L.Level.DEPTH - 1) c.args.changes.now c.args.context.now c.is_kept.ensures,
  λ d r. omega arith,
  rows_as_before c.args.context.now,
)

pub release_edge-requires : goal.release_edge-requires
release_edge-requires g c = record { held = hand_held g.M.Mix.mixed (g.L.Level.DEPTH - 1) c.args.changes.now c.args.context.now c.loop-edge.context c.loop-edge.edge-index c.loop-edge.invariant.0 c.loop-edge-test.true c.in-Some.edge c.in-Some.is c.requires.held }

pub loop-edge-preserved : goal.loop-edge-preserved
loop-edge-preserved g c =
    let depth = g.L.Level.DEPTH - 1 in
    let old = c.args.context.now in
    let mid = c.loop-edge.context in
    let left = at_depth depth (changes_lead (drop (c.loop-edge.edge-index + 1) c.args.changes.now)) in
    let all = at_depth depth (changes_lead c.args.changes.now) in
    elim c.match-edge.branch [
      | in-Some w ↦ (
        subst (λ t. AreMoved g.M.Mix.mixed old t left all) (sym w.context-is) (hand_on g.M.Mix.mixed depth c.args.changes.now old mid c.loop-edge.edge-index c.loop-edge.invariant.0 c.loop-edge-test.true w.in-Some.edge w.in-Some.is w.release_edge.new.self w.release_edge.ensures.moved),
        subst (λ t. CountsRiseBy old t nothing) (sym w.context-is) (counts_on old mid w.release_edge.new.self nothing nothing nothing c.loop-edge.invariant.1 w.release_edge.ensures.counts (λ d r. omega arith)),
        subst (λ t. RowsStay t old) (sym w.context-is) (rows_stay_on w.release_edge.new.self mid old w.release_edge.ensures.came c.loop-edge.invariant.2),
      )
      | in_default w ↦ (
        subst (λ t. AreMoved g.M.Mix.mixed old t left all) (sym w.context-is) (hand_none g.M.Mix.mixed depth c.args.changes.now old mid c.loop-edge.edge-index c.loop-edge.invariant.0 c.loop-edge-test.true w.in_default.is),
        subst (λ t. CountsRiseBy old t nothing) (sym w.context-is) c.loop-edge.invariant.1,
        subst (λ t. RowsStay t old) (sym w.context-is) c.loop-edge.invariant.2,
      )
    ]

pub returns-clause-moved : goal.returns-clause-moved
returns-clause-moved g c = hand_ends g.M.Mix.mixed (g.L.Level.DEPTH - 1) c.args.changes.now c.args.context.now c.loop-edge.context c.loop-edge.edge-index c.loop-edge.invariant.0 c.loop-edge-test.false
