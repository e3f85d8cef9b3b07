use Rattle.std.proofs.Common.{◌≡◌, take}
use Rattle.query_grammar.specs.Meaning.{value_of}
use Rattle.query_read.proofs.limit.value_of.Given as goal

abbrev pub invariant-loop-digit : goal.invariant-loop-digit
invariant-loop-digit l = l.number ≡ value_of (take l.digit-index l.digits)
