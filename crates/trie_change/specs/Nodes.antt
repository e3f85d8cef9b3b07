-- Nodes made of the parts of a set.
use Rattle.std.specs.Prelude.{◌≡◌, ℕ, ◌+◌}
use Rattle.std.specs.FinSet as set
use Rattle.edge_map.specs.Edges.{Edges}
use Rattle.hypertrie_model.specs.IdSets.{IdSet}
use Rattle.hypertrie_model.specs.Sets.{HasDepth}
use Rattle.trie_node.specs.declared.node.Node.{Node}
use Rattle.trie_node.specs.Sets.{pair_set_of, set_hash, edges_in, edges_of}
use Rattle.trie_node.specs.Forms.{IsPairEdge, IsTripleEdge, AreSlices, IsPairNode}

-- the size and the hash of a set of pairs, and the edges at its two positions, over the sets of the rows of depth one
pub record ArePairParts (mixed : ℕ → ℕ → ℕ → ℕ → ℕ) (low : ℕ → IdSet) (H : IdSet) (s h : ℕ) (a b : Edges) : Type 0 where
  pub deep : HasDepth 2 H
  pub sized : s ≡ set.len H
  pub hashed : h ≡ set_hash mixed 2 H
  pub first : AreSlices (IsPairEdge low) low H 0 a
  pub second : AreSlices (IsPairEdge low) low H 1 b

-- a node in form that stands for the set and has these edges
pub record IsPairNodeOf (mixed : ℕ → ℕ → ℕ → ℕ → ℕ) (low : ℕ → IdSet) (H : IdSet) (a b : Edges) (node : Node) : Type 0 where
  pub formed : IsPairNode (set_hash mixed 2) low node
  pub stands : pair_set_of low node ≡ H
  pub edges : (r : ℕ) → edges_of node r ≡ edges_in a r + edges_in b r

-- the same of a set of triples, over the sets of the rows of depth two
pub record AreTripleParts (mixed : ℕ → ℕ → ℕ → ℕ → ℕ) (low : ℕ → IdSet) (H : IdSet) (s h : ℕ) (a b c : Edges) : Type 0 where
  pub deep : HasDepth 3 H
  pub sized : s ≡ set.len H
  pub hashed : h ≡ set_hash mixed 3 H
  pub first : AreSlices (IsTripleEdge low) low H 0 a
  pub second : AreSlices (IsTripleEdge low) low H 1 b
  pub third : AreSlices (IsTripleEdge low) low H 2 c
