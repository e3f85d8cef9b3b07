use Rattle.std.proofs.Common.{◌-◌}
use Rattle.edge_map.specs.Packing.{IsBetween}
use Rattle.edge_map.proofs.search.between.Given as goal

abbrev pub invariant-loop-low : goal.invariant-loop-low
invariant-loop-low l = IsBetween l.keys l.from.0 l.low l.high

abbrev pub decreases-loop-low : goal.decreases-loop-low
decreases-loop-low l = l.high - l.low
