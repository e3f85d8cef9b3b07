use Rattle.std.proofs.Common.{drop}
use Rattle.std.specs.Prelude.{map}
use Rattle.query_grammar.specs.Meaning.{same_name}
use Rattle.query_read.specs.Seen.{name_seen}
use Rattle.query_read.proofs.PlacesFound.{IsPlaceSoFar}
use Rattle.query_read.proofs.name.number_among.Given as goal

abbrev pub invariant-loop-i : goal.invariant-loop-i
invariant-loop-i l = IsPlaceSoFar (same_name (name_seen l.name)) (map name_seen l.names) (map name_seen (drop l.i l.names)) l.i
