use Rattle.std.proofs.Common.{◌≡◌, drop}
use Rattle.edge_map.specs.Chunks.{seek_in}
use Rattle.edge_map.specs.Few.{own_entries}
use Rattle.edge_map.proofs.few.seek_own.Given as goal

-- the first key isn't among those before the place
abbrev pub invariant-loop-at : goal.invariant-loop-at
invariant-loop-at l = seek_in l.fn.from.0 (own_entries l.fn.keys) ≡ seek_in l.fn.from.0 (own_entries (drop l.at l.fn.keys))
