use Rattle.std.proofs.Common.{◌≡◌, drop}
use Rattle.std.specs.Prelude.{map}
use Rattle.std.specs.List.{list_all}
use Rattle.query_read.specs.Reads.{has_pattern}
use Rattle.query_read.specs.Seen.{triple_seen}
use Rattle.query_read.proofs.pattern.all_known.Given as goal

abbrev pub invariant-loop-i : goal.invariant-loop-i
invariant-loop-i l = list_all (has_pattern l.all) (map triple_seen l.triples) ≡ list_all (has_pattern l.all) (map triple_seen (drop l.i l.triples))
