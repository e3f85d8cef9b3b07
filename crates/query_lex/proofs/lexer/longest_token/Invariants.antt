use Rattle.std.proofs.Common.{◌≡◌}
use Rattle.std.specs.Str.Iter.{chars_rest}
use denote.Shadow.{shadow}
use denote.Text.{Utf8}
use Rattle.query_lex.specs.Runs.{IsBarren}
use Rattle.query_lex.proofs.TokenReading.{IsTokenSoFar}
use Rattle.query_lex.proofs.lexer.longest_token.Given as goal

abbrev pub invariant-loop-c : goal.invariant-loop-c
invariant-loop-c l =
    shadow (Utf8 l.rest) × IsTokenSoFar l.text l.state l.found (chars_rest l.ahead) × (chars_rest l.ahead ≡ l.rest) × IsBarren l.text l.barren
