use Rattle.std.proofs.Common.{◌≡◌}
use Rattle.graph_lines.proofs.sorted.in_lines.Given as goal

abbrev pub invariant-loop-text : goal.invariant-loop-text
invariant-loop-text l = l.lines ≡ l.yielded
