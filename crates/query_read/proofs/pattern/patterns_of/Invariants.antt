use Rattle.query_read.specs.Seen.{name_seen, triple_seen}
use Rattle.std.proofs.Common.{drop}
use Rattle.std.specs.Prelude.{map}
use Rattle.query_plan.specs.Seen.{pattern_seen}
use Rattle.query_read.proofs.PatternsRead.{ArePatternsSoFar}
use Rattle.query_read.proofs.pattern.patterns_of.Given as goal

abbrev pub invariant-loop-i : goal.invariant-loop-i
invariant-loop-i l =
    ArePatternsSoFar l.all (map name_seen l.names) (map triple_seen l.triples) (map triple_seen (drop l.i l.triples)) (map pattern_seen l.patterns)
