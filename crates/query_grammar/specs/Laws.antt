-- How the productions and the functions from the front agree.
use Rattle.std.specs.Prelude.{◌≡◌, ◌↔◌, true, List, Some}
use Rattle.query_grammar.specs.Block.{Part, Triple, IsBlock}
use Rattle.query_grammar.specs.BlockFront.{triples_of}
use Rattle.query_grammar.specs.Outline.{HasOutline, has_outline}
use Rattle.query_grammar.specs.Signs.{Sign}

-- The function finds the triples of a block exactly where the productions have them, so a block has one list of them at most.
abbrev pub FindsTriples : Type 0
FindsTriples = (ts : List Part) (ps : List Triple) → IsBlock ts ps ↔ (triples_of ts ≡ Some ps)

-- The test says of signs exactly what the form does.
abbrev pub TestsOutlines : Type 0
TestsOutlines = (signs : List Sign) → HasOutline signs ↔ (has_outline signs ≡ true)
