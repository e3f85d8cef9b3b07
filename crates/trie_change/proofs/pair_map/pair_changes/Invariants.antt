use Rattle.std.proofs.Common.{◌+◌, ◌≤◌, length}
use Rattle.trie_context.specs.Holds.{CountsRiseBy}
use Rattle.trie_change.specs.Batches.{pair_rest}
use Rattle.trie_change.proofs.MapLemmas.{AreDone}
use Rattle.trie_change.proofs.pair_map.pair_changes.Given as goal

abbrev pub invariant-loop-first : goal.invariant-loop-first
invariant-loop-first g l =
    (so_far : AreDone (λ p. p.0.0) pair_rest g.M.Mix.mixed l.change 1 l.fn.context l.old l.pairs l.context l.rest l.changes.items)
    × CountsRiseBy l.fn.context l.context (λ _ _. length so_far.runs.done)
    × (l.interns ≤ l.fn.interns + length so_far.runs.done)

abbrev pub decreases-loop-first : goal.decreases-loop-first
decreases-loop-first g l = length l.rest
