use Rattle.std.proofs.Common.{All, take}
use Rattle.key_join.specs.Lists.{IsIdTriple}
use Rattle.key_join.proofs.list.ListOp.of.Given as goal

abbrev pub invariant-loop-triple : goal.invariant-loop-triple
invariant-loop-triple l = All IsIdTriple (take l.triple-index l.list)
