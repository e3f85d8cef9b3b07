use Rattle.std.proofs.Common.{◌+◌, ◌*◌, ◌^◌, ◌≤◌, length}
use Rattle.trie_context.specs.Holds.{CountsRiseBy}
use Rattle.trie_change.specs.Batches.{trip_rest}
use Rattle.trie_change.specs.Sums.{sum_at, old_size}
use Rattle.trie_change.proofs.MapLemmas.{AreDone}
use Rattle.trie_change.proofs.triple_map.triple_changes.Given as goal

abbrev pub invariant-loop-first : goal.invariant-loop-first
invariant-loop-first g l =
    (so_far : AreDone (λ p. p.0.0) trip_rest g.M.Mix.mixed l.change 2 l.fn.context l.old l.triples l.context l.rest l.changes.items)
    × CountsRiseBy l.fn.context l.context (λ _ _. 2 ^ 34 * length so_far.runs.done)
    × (l.interns ≤ l.fn.interns + 3 * length so_far.runs.done)
    × (l.retains ≤ l.fn.retains + 2 * (sum_at (old_size l.fn.context 2 l.old) l.changes.items + length so_far.runs.done))

abbrev pub decreases-loop-first : goal.decreases-loop-first
decreases-loop-first g l = length l.rest
