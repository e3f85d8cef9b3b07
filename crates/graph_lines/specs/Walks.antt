-- Tuples of Ids as texts, and the texts of a set's members in a list.
use Rattle.std.specs.Prelude.{◌≡◌, ℕ, List, [], ◌∷◌, ◌++◌, map, codes, decimal, IsSome}
use Rattle.std.specs.Ordering.{nat_cmp}
use Rattle.std.specs.declared.cmp.Ordering.{Ordering}
use Rattle.std.specs.FinMap.{FinMap}
use Rattle.std.specs.FinSet as set
use Rattle.hypertrie_model.specs.IdSets.{IdSet}
use Rattle.hypertrie_model.specs.Sets.{single}
use Rattle.hypertrie_model.specs.Unions.{union_over}
use Rattle.rdf_model.specs.Terms.{Text, Term}
use Rattle.rdf_model.specs.Texts.{canon, tsv}
use Rattle.rdf_model.specs.Graph.{term_cmp}
use Rattle.term_dict.specs.Dict.{Terms}
use Rattle.trie_context.specs.declared.tables.Tables.{Tables}
use Rattle.trie_context.specs.Rows.{row_of, rows_at, set_of}
use Rattle.trie_context.specs.Holds.{count_of}
use Rattle.trie_context.specs.Shape.{HasShape}
use Rattle.trie_node.specs.Sets.{edge_set}
use Rattle.edge_map.specs.declared.edge.Edge.{Edge}
use Rattle.graph_view.specs.declared.tables.TablesView.{TablesView}
use Rattle.tuple_image.specs.TupleImages.{tuple_image, IsOver}
use Rattle.rdf_model.specs.Sorting.{AreMembersOf, in_order}
use Rattle.graph_shape.specs.GraphShapes.{GraphRow, depth_name, member_text, row_line, shape_lines, tabbed}
use Rattle.graph_image.specs.Images.{AreKnown, graph_of, term_at}
use Rattle.graph_view.specs.Read.{has_id}
use Rattle.graph_lines.specs.declared.style.Style.{Style}
use Rattle.graph_lines.specs.declared.style.Style.TheVariants.{Member, Line}

-- the texts are those that were there, and behind them that of each member of the set
abbrev pub AddsTexts : {K : Type 0} {R : K → K → Ordering} → (K → Text) → set.FinSet R → List Text → List Text → Type 0
AddsTexts {K} text H old new = (members : List K) × AreMembersOf H members × (new ≡ old ++ map text members)

-- the keys of a finite map, as tuples of one number
abbrev pub key_set : {X : Type 0} → FinMap nat_cmp X → IdSet
key_set m = union_over m (λ _. single nat_cmp [])

-- the text of each Id's term, with a space behind it
abbrev pub words : Terms → List ℕ → Text
words terms [] = []
words terms (id ∷ ids) = canon (term_at terms id) ++ codes " " ++ words terms ids

-- the line of the words that are there and those of the Ids
abbrev pub line_behind : Terms → Text → List ℕ → Text
line_behind terms before ids = before ++ words terms ids ++ codes "."

-- the text that is there, and that of a member of a row, as an answer has it
abbrev pub member_behind : Terms → Text → List ℕ → Text
member_behind terms before ids = before ++ member_text (map (term_at terms) ids)

-- the text of a term
abbrev pub text_in : Style → Term → Text
text_in Member = tsv
text_in Line = canon

-- what stands behind the last term
abbrev pub end_in : Style → Text
end_in Member = []
end_in Line = codes " ."

-- the text that is there, and that of a tuple
abbrev pub behind : Style → Terms → Text → List ℕ → Text
behind Member = member_behind
behind Line = line_behind

-- the texts in a style of the tuples, behind the one that is there
abbrev pub AddsTuples : Style → Terms → Text → IdSet → List Text → List Text → Type 0
AddsTuples style terms before = AddsTexts (behind style terms before)

-- the same, read through the dictionary of a view
abbrev pub Adds : Style → TablesView → Text → IdSet → List Text → List Text → Type 0
Adds style all = AddsTuples style all.dict.now

-- the tuples of a row
abbrev pub tuples_at : TablesView → ℕ → ℕ → IdSet
tuples_at all d r = set_of all.tables.now d r

-- the keys that an edge of pairs stands for
abbrev pub edge_keys : TablesView → Edge → IdSet
edge_keys all edge = edge_set (set_of all.tables.now 1) edge

-- the pairs of a map: a key, and one that its edge stands for
abbrev pub pairs_of : TablesView → FinMap nat_cmp Edge → IdSet
pairs_of all m = union_over m (edge_set (set_of all.tables.now 1))

-- the triples of a map: a subject, and a pair that its edge leads to
abbrev pub triples_of : TablesView → FinMap nat_cmp Edge → IdSet
triples_of all m = union_over m (edge_set (set_of all.tables.now 2))

-- the line of a row of this depth and count, whose members have these texts
abbrev pub line_with : ℕ → ℕ → List Text → Text
line_with d count members = depth_name d ++ codes "\t" ++ decimal count ++ tabbed (in_order members)

-- a row of the tables, its set read through the dictionary
abbrev pub row_read : Terms → Tables → ℕ → ℕ → GraphRow
row_read terms t d r = record { depth = d; tuples = tuple_image term_cmp (term_at terms) (set_of t d r); count = count_of (row_of t d r) }

-- the line of the row of a depth whose number the tuple is
abbrev pub row_text : Terms → Tables → ℕ → List ℕ → Text
row_text terms t d [] = []
row_text terms t d (r ∷ rest) = row_line (row_read terms t d r)

-- the rows of a depth have Ids of the dictionary
abbrev pub AreRowsKnown : Terms → Tables → ℕ → Type 0
AreRowsKnown terms t d = (r : ℕ) → IsSome (row_of t d r) → IsOver (has_id terms) (set_of t d r)

-- the lines of the rows of a depth, behind those that are there
abbrev pub AddsRows : Terms → Tables → ℕ → List Text → List Text → Type 0
AddsRows terms t d = AddsTexts (row_text terms t d) (key_set (rows_at t d))

-- the lines of the rows of depth one, and behind them those of depth two
abbrev pub AreRowTexts : Terms → Tables → List Text → Type 0
AreRowTexts terms t texts = (ones : List Text) × AddsRows terms t 1 [] ones × AddsRows terms t 2 ones texts

-- of each set that has the shape of the tables, and Ids of the dictionary, these are the lines of its graph's shape
abbrev pub AreShapeLines : TablesView → List Text → Type 0
AreShapeLines all lines = (H : IdSet) → HasShape all.tables.now H → AreKnown all.dict.now H → lines ≡ shape_lines (graph_of all.dict.now H)
