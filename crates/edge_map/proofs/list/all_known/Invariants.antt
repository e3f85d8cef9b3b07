use Rattle.std.proofs.Common.{take}
use Rattle.edge_map.specs.Entries.{AreSmall}
use Rattle.edge_map.proofs.list.all_known.Given as goal

abbrev pub invariant-loop-key : goal.invariant-loop-key
invariant-loop-key l = AreSmall (take l.key-index l.entries)
