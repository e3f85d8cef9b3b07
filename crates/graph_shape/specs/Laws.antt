-- What the lines of a shape are told from: sorted lines of its rows, and rows over numbers that stand for the terms.
use Rattle.std.specs.Prelude.{◌≡◌, ◌<◌, ◌++◌, [], ℕ, Bool, List, IsPermutation, map, codes, decimal}
use Rattle.std.specs.List.Sorted.{IsSorted}
use Rattle.std.specs.Ordering.{nat_cmp}
use Rattle.std.specs.FinSet as set
use Rattle.hypertrie_model.specs.IdSets.{IdSet}
use Rattle.rdf_model.specs.Terms.{Text, Term}
use Rattle.rdf_model.specs.Graph.{Graph, term_cmp}
use Rattle.tuple_image.specs.TupleImages.{IsOver, IsOneToOneWhere, ReadsShape}
use Rattle.rdf_model.specs.Sorting.{AreMembersOf, text_cmp}
use Rattle.graph_shape.specs.GraphShapes.{GraphRow, member_text, tabbed, depth_name, row_line, line_rows, shape_lines}

-- any list of the rows that have a line, each once, gives the lines of the graph when its lines are sorted
abbrev pub SortsToShapeLines : Type 0
SortsToShapeLines = (G : Graph) (rows : List GraphRow) (lines : List Text) → AreMembersOf (line_rows G) rows → IsPermutation (map row_line rows) lines → IsSorted text_cmp lines → lines ≡ shape_lines G

-- and so does any list of the members of a row with its line
abbrev pub SortsToRowLine : Type 0
SortsToRowLine = (row : GraphRow) (members : List (List Term)) (texts : List Text) → AreMembersOf row.tuples members → IsPermutation (map member_text members) texts → IsSorted text_cmp texts
    → row_line row ≡ depth_name row.depth ++ codes "\t" ++ decimal row.count ++ tabbed texts

-- fewer than two triples have no line
abbrev pub SmallHaveNoLines : Type 0
SmallHaveNoLines = (G : Graph) → set.len G < 2 → shape_lines G ≡ []

-- where no two known numbers have one term, the shape of tuples of known numbers, read, is that of the tuples read
abbrev pub ReadsShapes : Type 0
ReadsShapes = (known : ℕ → Bool) (term : ℕ → Term) → IsOneToOneWhere known term → (H : IdSet) → IsOver known H → ReadsShape nat_cmp term_cmp term H
