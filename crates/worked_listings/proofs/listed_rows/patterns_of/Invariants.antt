use Rattle.std.proofs.Common.{◌≡◌, map, take}
use Rattle.worked_listings.specs.Tried.{pattern_of}
use Rattle.worked_listings.proofs.listed_rows.patterns_of.Given as goal

abbrev pub invariant-loop-s : goal.invariant-loop-s
invariant-loop-s l = l.patterns ≡ map pattern_of (take l.s-index l.labels)
