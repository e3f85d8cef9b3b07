-- The solutions of a query over a graph, and the rows that they give (SPARQL 1.1, sections 18.2.1, 18.2.5 and 18.3). A
-- solution gives each label of the query a term of the graph, so that the image of each pattern is a triple of the graph.
use Rattle.std.specs.Prelude.{ℕ, ◌&&◌, Bool, true, false, List, [], ◌∷◌, map, Option, Some}
use Rattle.std.specs.List.{filter}
use Rattle.std.specs.FinSet as set
use Rattle.hypertrie_model.specs.Slices.{at}
use Rattle.rdf_model.specs.Terms.{Term}
use Rattle.rdf_model.specs.Texts.{canon}
use Rattle.rdf_model.specs.Graph.{Graph}
use Rattle.rdf_model.specs.GraphTerms.{terms_of}
use Rattle.query_grammar.specs.Meaning.{Query, Pattern, Place, LabelAt, Const}
use Rattle.bag_model.specs.Solutions.{assignments, row_of}
use Rattle.solution_model.specs.Members.{members}
use Rattle.solution_model.specs.Ordered.{ordered_by}

-- the values of the columns; none for a column without label
abbrev pub Row : Type 0
Row = List (Option Term)

-- the term at a place under an assignment, which is the list of the terms of all labels
abbrev pub term_under : List Term → Place → Option Term
term_under a (LabelAt l) = at l a
term_under a (Const t) = Some t

-- whether the graph has the triple of three terms
abbrev pub has_triple : Graph → Option Term → Option Term → Option Term → Bool
has_triple G (Some s) (Some p) (Some o) = set.contains G (record { s = s; p = p; o = o })
has_triple G _ _ _ = false

-- whether the image of a pattern is a triple of the graph
abbrev pub has_image : Graph → List Term → Pattern → Bool
has_image G a p = has_triple G (term_under a p.s) (term_under a p.p) (term_under a p.o)

-- whether that of each pattern is
abbrev pub is_solution : Graph → List Pattern → List Term → Bool
is_solution G [] a = true
is_solution G (p ∷ ps) a = has_image G a p && is_solution G ps a

-- the terms of a graph, in the order of the bytes of their N-Triples texts
unfoldable pub ordered_terms : Graph → List Term
ordered_terms G = ordered_by canon (members (terms_of G))

-- all solutions: the terms of the graph are gone through label by label, in order
abbrev pub solutions : Query → Graph → List (List Term)
solutions q G = filter (is_solution G q.patterns) (assignments (ordered_terms G) q.labels)

abbrev pub column_labels : Query → List (Option ℕ)
column_labels q = map (λ c. c.label) q.columns

-- one row for each solution
unfoldable pub all_rows : Query → Graph → List Row
all_rows q G = map (row_of (column_labels q)) (solutions q G)
