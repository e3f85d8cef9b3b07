use Rattle.std.proofs.Common.{◌≡◌}
use Rattle.edge_map.specs.Entries.{merged}
use Rattle.edge_map.specs.Merging.{whole, n_left}
use Rattle.edge_map.proofs.merging.merge_each.Given as goal

abbrev pub invariant-loop-left : goal.invariant-loop-left
invariant-loop-left l = merged l.initial.left.entries.now l.initial.left.changes.now ≡ whole l.new.items l.left

abbrev pub decreases-loop-left : goal.decreases-loop-left
decreases-loop-left l = n_left l.left
