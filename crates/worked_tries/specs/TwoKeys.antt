-- The set of two keys as a node, and that of one key before each of two.
use Rattle.std.specs.FinMap as map
use Rattle.trie_depth.specs.declared.id.Id.{Id}
use Rattle.edge_map.specs.declared.edge.Edge.{Edge}
use Rattle.edge_map.specs.declared.edge.Edge.TheVariants.{Key}
use Rattle.edge_map.specs.Edges.{Edges}
use Rattle.trie_node.specs.declared.node.Node.{Node}
use Rattle.trie_node.specs.declared.node.Node.TheVariants.{Full}

-- an edge under each of two keys
abbrev pub two_edges : Id → Edge → Id → Edge → Edges
two_edges low lower high higher = map.insert (map.insert map.empty high.0 higher) low.0 lower

abbrev pub two_keys_node : Id → Id → Node
two_keys_node low high = Full 2 0 (two_edges low (Key low) high (Key high)) map.empty map.empty

-- the set of the two keys is behind an edge
abbrev pub pairs_node : Id → Edge → Id → Id → Node
pairs_node first keys low high = Full 2 0 (map.insert map.empty first.0 keys) (two_edges low (Key first) high (Key first)) map.empty
