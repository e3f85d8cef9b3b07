use Rattle.std.proofs.Common.{◌≡◌, ◌++◌, take}
use Rattle.edge_map.proofs.short.Short.append_to.Given as goal

abbrev pub invariant-loop-at : goal.invariant-loop-at
invariant-loop-at l = l.run.items ≡ l.fn.run.items ++ take l.at l.self
