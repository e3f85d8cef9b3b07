use Rattle.std.proofs.Common.{◌≡◌, take}
use Rattle.edge_map.specs.Few.{key_entries}
use Rattle.edge_map.proofs.few.key_pairs.Given as goal

abbrev pub invariant-loop-key : goal.invariant-loop-key
invariant-loop-key g l = key_entries l.pairs.items ≡ take l.key-index l.entries
