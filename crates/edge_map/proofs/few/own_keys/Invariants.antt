use Rattle.std.proofs.Common.{◌≡◌, take}
use Rattle.edge_map.specs.Few.{own_entries}
use Rattle.edge_map.proofs.few.own_keys.Given as goal

abbrev pub invariant-loop-key : goal.invariant-loop-key
invariant-loop-key l = own_entries l.keys.items ≡ take l.key-index l.entries
