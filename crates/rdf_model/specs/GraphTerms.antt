-- The terms of a graph (RDF 1.1 Concepts, section 3.1).
use Rattle.std.specs.FinSet as set
use Rattle.rdf_model.specs.Graph.{Graph, term_cmp}
use Rattle.set_image.specs.Images.{image}

-- the subjects, predicates and objects of its triples
unfoldable pub terms_of : Graph → set.FinSet term_cmp
terms_of G = set.union (image term_cmp (λ t. t.s) G) (set.union (image term_cmp (λ t. t.p) G) (image term_cmp (λ t. t.o) G))
