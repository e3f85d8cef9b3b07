-- The form in which a node of each depth keeps its set. `low` gives the set of each row one depth below, empty where there is none, and `hash` that of a set.
use Rattle.std.specs.Prelude.{◌≡◌, ℕ, ◌≤◌, Option, None, Some}
use Rattle.std.specs.Ordering.{nat_cmp}
use Rattle.std.specs.FinMap as map
use Rattle.std.specs.FinSet as set
use Rattle.edge_map.specs.declared.edge.Edge.{Edge}
use Rattle.edge_map.specs.declared.edge.Edge.TheVariants.{Key, Node as ToRow}
use Rattle.edge_map.specs.Edges.{Edges}
use Rattle.hypertrie_model.specs.IdSets.{IdSet}
use Rattle.hypertrie_model.specs.Sets.{empty}
use Rattle.hypertrie_model.specs.Slices.{slice}
use Rattle.trie_node.specs.declared.node.Node.{Node}
use Rattle.trie_node.specs.declared.node.Node.TheVariants.{Single, Full}
use Rattle.trie_node.specs.Sets.{edge_set, key_set_of, pair_set_of, triple_set_of}

-- an edge of a node of depth two: a key, or a row of two or more keys
abbrev pub IsPairEdge : (ℕ → IdSet) → Edge → Type 0
IsPairEdge low (Key x) = Unit {0}
IsPairEdge low (ToRow n) = 2 ≤ set.len (low n)

-- an edge of a node of depth three: a row of one pair or more
abbrev pub IsTripleEdge : (ℕ → IdSet) → Edge → Type 0
IsTripleEdge low (Key x) = ⊥
IsTripleEdge low (ToRow n) = 1 ≤ set.len (low n)

-- no edge where the set is empty, and else a fit edge that stands for the set
abbrev pub StandsFor : (Edge → Type 0) → (ℕ → IdSet) → IdSet → Option Edge → Type 0
StandsFor fit low S None = S ≡ empty nat_cmp
StandsFor fit low S (Some e) = (fit e) × (edge_set low e ≡ S)

-- the map has an edge under exactly the keys of the position, and each stands for the slice by its key
abbrev pub AreSlices : (Edge → Type 0) → (ℕ → IdSet) → IdSet → ℕ → Edges → Type 0
AreSlices fit low H i m = (k : ℕ) → StandsFor fit low (slice nat_cmp H i k) (map.get m k)

-- the set has two or more tuples, and size and hash are its own
pub record IsTold (hash : IdSet → ℕ) (H : IdSet) (s h : ℕ) : Type 0 where
  pub sized : s ≡ set.len H
  pub large : 2 ≤ set.len H
  pub hashed : h ≡ hash H

-- a key set: each key under itself
pub record IsFullOfKeys (hash : IdSet → ℕ) (s h : ℕ) (a b c : Edges) : Type 0 where
  pub told : IsTold hash (key_set_of (Full s h a b c)) s h
  pub keys : (k : ℕ) (e : Edge) → map.get a k ≡ Some e → e ≡ Key (record { 0 = k })
  pub second : b ≡ map.empty
  pub third : c ≡ map.empty

-- a set of two or more pairs: a map for each of the two positions
pub record IsFullOfPairs (hash : IdSet → ℕ) (low : ℕ → IdSet) (s h : ℕ) (a b c : Edges) : Type 0 where
  pub told : IsTold hash (pair_set_of low (Full s h a b c)) s h
  pub first : AreSlices (IsPairEdge low) low (pair_set_of low (Full s h a b c)) 0 a
  pub second : AreSlices (IsPairEdge low) low (pair_set_of low (Full s h a b c)) 1 b
  pub third : c ≡ map.empty

-- a set of two or more triples: a map for each of the three positions
pub record IsFullOfTriples (hash : IdSet → ℕ) (low : ℕ → IdSet) (s h : ℕ) (a b c : Edges) : Type 0 where
  pub told : IsTold hash (triple_set_of low (Full s h a b c)) s h
  pub first : AreSlices (IsTripleEdge low) low (triple_set_of low (Full s h a b c)) 0 a
  pub second : AreSlices (IsTripleEdge low) low (triple_set_of low (Full s h a b c)) 1 b
  pub third : AreSlices (IsTripleEdge low) low (triple_set_of low (Full s h a b c)) 2 c

-- a node of depth one
abbrev pub IsKeyNode : (IdSet → ℕ) → Node → Type 0
IsKeyNode hash (Single p) = ⊥
IsKeyNode hash (Full s h a b c) = IsFullOfKeys hash s h a b c

-- a node of depth two: one pair, or two and more
abbrev pub IsPairNode : (IdSet → ℕ) → (ℕ → IdSet) → Node → Type 0
IsPairNode hash low (Single p) = Unit {0}
IsPairNode hash low (Full s h a b c) = IsFullOfPairs hash low s h a b c

-- a node of depth three
abbrev pub IsTripleNode : (IdSet → ℕ) → (ℕ → IdSet) → Node → Type 0
IsTripleNode hash low (Single p) = ⊥
IsTripleNode hash low (Full s h a b c) = IsFullOfTriples hash low s h a b c
