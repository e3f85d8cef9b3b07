use Rattle.std.specs.Prelude.{map}
use Rattle.query_read.specs.Seen.{expect_seen, triple_seen}
use Rattle.query_read.proofs.BlockRead.{IsBlockSoFar}
use Rattle.query_read.proofs.block.triples.Given as goal

abbrev pub invariant-loop-i : goal.invariant-loop-i
invariant-loop-i l = IsBlockSoFar l.all l.from l.to l.i (expect_seen l.expect) l.brackets (map triple_seen l.found.items)
