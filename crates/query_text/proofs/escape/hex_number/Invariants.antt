use denote.Text.{Utf8}
use denote.Shadow.{shadow}
use Rattle.query_text.proofs.EscapesRead.{IsHexSoFar}
use Rattle.query_text.proofs.escape.hex_number.Given as goal

abbrev pub invariant-loop : goal.invariant-loop
invariant-loop l = shadow (Utf8 l.rest) × IsHexSoFar l.text l.rest l.counter l.number
