use Rattle.std.proofs.Common.{◌<◌, ◌-◌, length, get_or}
use Rattle.trie_depth.specs.declared.id.Id.{Id}
use Rattle.edge_map.proofs.search.upward.Given as goal

abbrev pub invariant-loop-step : goal.invariant-loop-step
invariant-loop-step l = (l.low < length l.keys) × (0 < l.step) × ((d : Id) → (get_or l.keys l.low d).0 < l.from.0)

abbrev pub decreases-loop-step : goal.decreases-loop-step
decreases-loop-step l = length l.keys - l.low
