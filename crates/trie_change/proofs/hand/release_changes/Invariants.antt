use Rattle.std.proofs.Common.{◌-◌, drop}
use Rattle.trie_context.specs.Holds.{at_depth, nothing, CountsRiseBy, RowsStay}
use Rattle.trie_context.specs.Kept.{AreMoved}
use Rattle.trie_change.specs.Rooms.{changes_lead}
use Rattle.trie_change.proofs.hand.release_changes.Given as goal

-- what is left of the changes is still held
abbrev pub invariant-loop-edge : goal.invariant-loop-edge
invariant-loop-edge g l =
    AreMoved g.M.Mix.mixed l.fn.context l.context (at_depth (g.L.Level.DEPTH - 1) (changes_lead (drop l.edge-index l.changes))) (at_depth (g.L.Level.DEPTH - 1) (changes_lead l.changes))
    × CountsRiseBy l.fn.context l.context nothing
    × RowsStay l.context l.fn.context
