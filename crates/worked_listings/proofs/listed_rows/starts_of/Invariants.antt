use Rattle.std.proofs.Common.{◌≡◌, map, take}
use Rattle.worked_listings.specs.Tried.{start_of}
use Rattle.worked_listings.proofs.listed_rows.starts_of.Given as goal

abbrev pub invariant-loop-s : goal.invariant-loop-s
invariant-loop-s g l = l.starts.items ≡ map (start_of l.op) (take l.s-index l.labels)
