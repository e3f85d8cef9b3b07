use Rattle.std.proofs.Common.{drop}
use Rattle.query_read.proofs.OutlineMoves.{IsOutlineSoFar}
use Rattle.query_read.proofs.outline.has_outline.Given as goal

abbrev pub invariant-loop-lexeme : goal.invariant-loop-lexeme
invariant-loop-lexeme l = IsOutlineSoFar l.all (drop l.lexeme-index l.all) l.outline
