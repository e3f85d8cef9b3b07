-- What a pattern leaves of a graph once its constants are fixed.
use Rattle.std.specs.Prelude.{ℕ, ◌<◌, List, [], ◌∷◌, ◌++◌}
use Rattle.std.specs.List.{AllByRecursion}
use Rattle.hypertrie_model.specs.Sets.{TupleSet}
use Rattle.hypertrie_model.specs.Slices.{slice}
use Rattle.rdf_model.specs.Graph.{Graph, term_cmp}
use Rattle.graph_shape.specs.GraphShapes.{tuples_of}
use Rattle.query_grammar.specs.Meaning.{Pattern, Place, LabelAt, Const}
use Rattle.bag_model.specs.Solutions.{Rest}

-- the label at a place, if one stands there
abbrev pub place_labels : Place → List ℕ
place_labels (LabelAt l) = l ∷ []
place_labels (Const t) = []

-- the labels of a pattern's places, in their order
abbrev pub pattern_labels : Pattern → List ℕ
pattern_labels p = place_labels p.s ++ (place_labels p.p ++ place_labels p.o)

-- each label of a pattern is below n
abbrev pub AreBelow : ℕ → List Pattern → Type 0
AreBelow n patterns = AllByRecursion (λ p. AllByRecursion (λ l. l < n) (pattern_labels p)) patterns

-- the slice at a position by the constant of its place; all, where a label stands there
abbrev pub slice_by : Place → ℕ → TupleSet term_cmp → TupleSet term_cmp
slice_by (LabelAt l) i H = H
slice_by (Const t) i H = slice term_cmp H i t

-- the slice of a set of triples at the pattern's constants
abbrev pub slice_of : Pattern → TupleSet term_cmp → TupleSet term_cmp
slice_of p H = slice_by p.s 0 (slice_by p.p 1 (slice_by p.o 2 H))

-- that of the graph, and the labels of the positions that are left
abbrev pub rest_of : Graph → Pattern → Rest term_cmp
rest_of G p = record { tuples = slice_of p (tuples_of G); labels = pattern_labels p }
