use Rattle.std.proofs.Common.{◌<◌, ◌≤◌, length, get_or}
use Rattle.trie_depth.specs.declared.id.Id.{Id}
use Rattle.edge_map.proofs.search.downward.Given as goal

abbrev pub invariant-loop-step : goal.invariant-loop-step
invariant-loop-step l = (l.high < length l.keys) × (0 < l.step) × ((d : Id) → l.from.0 ≤ (get_or l.keys l.high d).0)

abbrev pub decreases-loop-step : goal.decreases-loop-step
decreases-loop-step l = l.high
