use Rattle.std.proofs.Common.{◌≡◌, drop}
use Rattle.std.specs.Prelude.{map}
use Rattle.query_read.specs.Reads.{variables_of}
use Rattle.query_read.specs.Seen.{name_seen}
use Rattle.query_read.proofs.NamesRead.{heads}
use Rattle.query_read.proofs.name.variables.Given as goal

abbrev pub invariant-loop-lexeme : goal.invariant-loop-lexeme
invariant-loop-lexeme l = variables_of l.all ≡ heads (map name_seen l.names.items) (drop l.lexeme-index l.all)
