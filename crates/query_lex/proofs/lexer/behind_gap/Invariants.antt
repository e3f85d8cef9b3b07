use Rattle.std.proofs.Common.{◌≡◌}
use Rattle.std.specs.Str.Iter.{chars_rest}
use denote.Shadow.{shadow}
use denote.Text.{Utf8}
use Rattle.query_lex.proofs.GapReading.{IsGapSoFar}
use Rattle.query_lex.proofs.lexer.behind_gap.Given as goal

abbrev pub invariant-loop-c : goal.invariant-loop-c
invariant-loop-c l = shadow (Utf8 l.rest) × IsGapSoFar l.text l.gap (chars_rest l.ahead) × (chars_rest l.ahead ≡ l.rest)
