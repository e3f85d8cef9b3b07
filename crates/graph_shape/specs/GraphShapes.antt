-- The shape of a graph, its text, and its figures (docs/SCRIPT.md). A row is a set of pairs or of single terms, with the number of slices of the graph that it is.
use Rattle.std.specs.Prelude.{ℕ, Bool, cond, nat_eq, nat_le, nat_lt, List, [], ◌∷◌, ◌++◌, codes, decimal}
use Rattle.std.specs.List.{flat_map}
use Rattle.std.specs.Cmp.Lexicographic.{slice_cmp}
use Rattle.std.specs.FinSet as set
use Rattle.hypertrie_model.specs.Sets.{TupleSet}
use Rattle.hypertrie_model.specs.Shapes.{ShapeRow, row_cmp, two, one, shape}
use Rattle.rdf_model.specs.Terms.{Text, Term, Triple}
use Rattle.rdf_model.specs.Texts.{tsv}
use Rattle.rdf_model.specs.Graph.{Graph, term_cmp}
unfoldable pub use Rattle.rdf_model.specs.GraphTerms.{terms_of}
use Rattle.set_image.specs.Images.{image}
use Rattle.rdf_model.specs.Sorting.{sorted_texts}

-- subject, predicate and object as a tuple
abbrev pub tuple_of : Triple → List Term
tuple_of t = t.s ∷ t.p ∷ t.o ∷ []

-- the triples of a graph as tuples
abbrev pub tuples_of : Graph → TupleSet term_cmp
tuples_of G = image (slice_cmp term_cmp) tuple_of G

abbrev pub GraphRow : Type 0
GraphRow = ShapeRow term_cmp

-- the text of each term, with a space before it
abbrev pub spaced : List Term → Text
spaced [] = []
spaced (x ∷ xs) = codes " " ++ tsv x ++ spaced xs

-- the texts of the terms, parted by a space
abbrev pub member_text : List Term → Text
member_text [] = []
member_text (x ∷ xs) = tsv x ++ spaced xs

-- each text with a tab before it
abbrev pub tabbed : List Text → Text
tabbed = flat_map (λ text. codes "\t" ++ text)

abbrev pub depth_name : ℕ → Text
depth_name d = cond (nat_eq d 1) (codes "one") (codes "two")

-- what the row is, how many slices, and its members in the order of the bytes of their texts
abbrev pub row_line : GraphRow → Text
row_line row = depth_name row.depth ++ codes "\t" ++ decimal row.count ++ tabbed (sorted_texts member_text row.tuples)

-- rows of pairs and of single terms; the row of the whole graph has no line
abbrev pub has_line : GraphRow → Bool
has_line row = nat_lt row.depth 3

-- the rows that have a line
abbrev pub line_rows : Graph → set.FinSet (row_cmp term_cmp)
line_rows G = set.retain (shape term_cmp (tuples_of G)) has_line

-- the lines of the shape of a graph, in the order of their bytes
unfoldable pub shape_lines : Graph → List Text
shape_lines G = sorted_texts row_line (line_rows G)

-- how many triples and terms a graph has, and rows of pairs and of single terms its shape
pub record Figures : Type 0 where
  pub triples : ℕ
  pub terms : ℕ
  pub two : ℕ
  pub one : ℕ

-- the number of rows, and none for fewer than two triples
abbrev pub rows_in : Graph → ℕ → ℕ
rows_in G n = cond (nat_le 2 (set.len G)) n 0

unfoldable pub figures_of : Graph → Figures
figures_of G = record {
  triples = set.len G;
  terms = set.len (terms_of G);
  two = rows_in G (set.len (two term_cmp (tuples_of G)));
  one = rows_in G (set.len (one term_cmp (tuples_of G)));
}
