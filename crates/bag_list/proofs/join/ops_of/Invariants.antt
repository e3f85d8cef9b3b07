use Rattle.std.proofs.Common.{◌≡◌, length}
use Rattle.bag_list.proofs.join.ops_of.Given as goal

abbrev pub invariant-loop-i : goal.invariant-loop-i
invariant-loop-i g l = length l.ops.items ≡ l.i
