-- A graph as sorted lines (RDF 1.1 N-Triples, section 2).
use Rattle.std.specs.Prelude.{◌≡◌, ◌↔◌, List}
use Rattle.rdf_model.specs.Terms.{Text, Triple}
use Rattle.rdf_model.specs.Texts.{dump_line}
use Rattle.rdf_model.specs.Graph.{Graph}
use Rattle.rdf_model.specs.Sorting.{AreMembersOf, AreSortedTexts, sorted_texts}

-- the triples of a graph, each once, in some order
abbrev pub AreTriplesOf : Graph → List Triple → Type 0
AreTriplesOf = AreMembersOf

-- the lines of all triples, sorted by their bytes
abbrev pub AreDumpLines : Graph → List Text → Type 0
AreDumpLines = AreSortedTexts dump_line

-- the same as a function of the graph
abbrev pub dump_lines : Graph → List Text
dump_lines = sorted_texts dump_line

-- and no other lists are such lines
abbrev pub SortsToDumpLines : Type 0
SortsToDumpLines = (G : Graph) (lines : List Text) → AreDumpLines G lines ↔ (lines ≡ dump_lines G)
