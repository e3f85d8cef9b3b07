use Rattle.std.proofs.Common.{◌+◌, ◌≤◌, length}
use Rattle.edge_map.specs.Edges.{changed}
use Rattle.change_log.specs.Logged.{IsLogged}
use Rattle.trie_change.specs.After.{map_hold}
use Rattle.trie_change.specs.Batches.{pair_rest}
use Rattle.trie_change.specs.RunLaws.{AreDone}
use Rattle.trie_context.specs.Holds.{nothing}
use Rattle.trie_reopen.specs.Shared.{HoldsRiseBy}
use Rattle.trie_reopen.proofs.pair_map.replace_each.Given as goal

abbrev pub invariant-loop-first : goal.invariant-loop-first
invariant-loop-first g l =
    (so_far : AreDone (λ p. p.0.0) pair_rest l.change 1 l.fn.context l.old l.pairs l.context l.rest l.changes.items)
    × IsLogged g.M.Mix.mixed l.fn.context l.context l.fn.log.steps l.log.steps (map_hold 1 (changed l.old l.changes.items)) (map_hold 1 l.old) (length so_far.done)
    × (l.interns ≤ l.fn.interns + length so_far.done)
    × HoldsRiseBy l.fn.context l.context nothing

abbrev pub decreases-loop-first : goal.decreases-loop-first
decreases-loop-first g l = length l.rest
