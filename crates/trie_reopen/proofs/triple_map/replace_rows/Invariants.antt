use Rattle.std.proofs.Common.{ℕ, ◌+◌, ◌*◌, ◌^◌, ◌≤◌, length}
use Rattle.edge_map.specs.Edges.{changed}
use Rattle.change_log.specs.Logged.{IsLogged}
use Rattle.trie_change.specs.After.{map_hold}
use Rattle.trie_change.specs.Batches.{trip_rest}
use Rattle.trie_change.specs.RunLaws.{AreDone}
use Rattle.hypertrie_model.specs.IdSets.{IdSet}
use Rattle.trie_change.specs.Sums.{sum_at}
use Rattle.trie_reopen.specs.Shared.{AreShared, AreTurned}
use Rattle.trie_reopen.proofs.SharedLemmas.{cost_at}
use Rattle.trie_reopen.proofs.triple_map.replace_rows.Given as goal

abbrev pub invariant-loop-first : goal.invariant-loop-first
invariant-loop-first g l =
    (so_far : AreDone (λ p. p.0.0) trip_rest l.change 2 l.fn.context l.old l.triples l.context l.rest l.changes.items)
    × IsLogged g.M.Mix.mixed l.fn.context l.context l.fn.log.steps l.log.steps (map_hold 2 (changed l.old l.changes.items)) (map_hold 2 l.old) (2 ^ 34 * length so_far.done)
    × (l.interns ≤ l.fn.interns + 3 * length so_far.done)
    × ((G H : IdSet) (i : ℕ) → AreTurned l.change G H i l.fn.context l.old l.triples → AreShared G H l.fn.context → AreShared G H l.context × (l.retains ≤ l.fn.retains + (2 * length so_far.done + sum_at (cost_at G H i) l.changes.items)))

abbrev pub decreases-loop-first : goal.decreases-loop-first
decreases-loop-first g l = length l.rest
