-- The triples of a graph, by their Ids and by their terms.
use Rattle.hypertrie_model.specs.IdSets.{IdSet}
use Rattle.rdf_model.specs.Graph.{Graph}
use Rattle.trie_context.specs.Roots.{root_set}
use Rattle.graph_image.specs.Images.{graph_of}
use Rattle.graph_view.specs.declared.graph.GraphView.{GraphView}

abbrev pub triples_in : GraphView → IdSet
triples_in g = root_set g.all.tables.now g.root.now

abbrev pub graph_in : GraphView → Graph
graph_in g = graph_of g.all.dict.now (triples_in g)
