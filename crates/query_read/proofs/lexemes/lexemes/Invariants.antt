use Rattle.std.proofs.Common.{◌-◌, length}
use Rattle.query_read.proofs.LexedRead.{IsLexedSoFar}
use Rattle.query_read.proofs.lexemes.lexemes.Given as goal

abbrev pub invariant-loop-token : goal.invariant-loop-token
invariant-loop-token l = IsLexedSoFar l.text l.lexer l.found.items

abbrev pub decreases-loop-token : goal.decreases-loop-token
decreases-loop-token l = length l.text - l.lexer.place
