use Rattle.std.proofs.Common.{◌≡◌, []}
use Rattle.std.specs.Prelude.{map}
use Rattle.query_grammar.specs.Meaning.{names_from}
use Rattle.query_read.specs.Reads.{block_within}
use Rattle.query_read.specs.Seen.{name_seen}
use Rattle.query_read.proofs.name.names.Given as goal

abbrev pub invariant-loop-i : goal.invariant-loop-i
invariant-loop-i l =
    names_from [] l.from (block_within l.from l.to l.all) ≡ names_from (map name_seen l.names.items) l.i (block_within l.i l.to l.all)
