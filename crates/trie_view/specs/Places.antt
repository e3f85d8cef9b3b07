-- Places in the tables of a graph: the sets that they stand for, and what is known of them.
use Rattle.std.specs.Prelude.{◌≡◌, ◌≢◌, ℕ, [], true, List, Option, None, Some, IsSome}
use Rattle.std.specs.Ordering.{nat_cmp}
use Rattle.std.specs.FinMap as map
use Rattle.hypertrie_model.specs.IdSets.{IdSet}
use Rattle.hypertrie_model.specs.Sets.{has, empty, single}
use Rattle.hypertrie_model.specs.Slices.{slice}
use Rattle.hypertrie_model.specs.Unions.{union_over}
use Rattle.trie_depth.specs.Operands.{IsIdTuple}
use Rattle.trie_depth.specs.Tuples.{id_tuple, pair_tuple, trip_tuple}
use Rattle.edge_map.specs.declared.edge.Edge.{Edge}
use Rattle.edge_map.specs.Edges.{Edges}
use Rattle.trie_node.specs.declared.node.Node.{Node}
use Rattle.trie_node.specs.declared.node.Node.TheVariants.{Single, Full}
use Rattle.trie_node.specs.Sets.{set_over, map_at}
use Rattle.trie_context.specs.declared.root.Root.{Root}
use Rattle.trie_context.specs.declared.root.Root.TheVariants.{Empty, One as OneTriple, Many}
use Rattle.trie_context.specs.declared.tables.Tables.{Tables}
use Rattle.trie_context.specs.Rows.{row_of, set_of}
use Rattle.trie_context.specs.Kept.{IsNode, AreKept}
use Rattle.trie_view.specs.declared.location.Location.{Location}
use Rattle.trie_view.specs.declared.location.Location.TheVariants.{Triple, Triples, Pair, Pairs, Key, Keys, There}
use Rattle.trie_view.specs.declared.location.KeysAt.{KeysAt}
use Rattle.trie_view.specs.declared.location.KeysAt.TheVariants.{One, Of}

-- how many keys each tuple has
abbrev pub place_depth : Location → ℕ
place_depth (Triple e) = 3
place_depth (Triples n) = 3
place_depth (Pair e) = 2
place_depth (Pairs n) = 2
place_depth (Key k) = 1
place_depth (Keys m) = 1
place_depth There = 0

-- the set that a place stands for
abbrev pub place_set : Tables → Location → IdSet
place_set t (Triple e) = single nat_cmp (trip_tuple e)
place_set t (Triples n) = set_over (set_of t 2) n.now
place_set t (Pair e) = single nat_cmp (pair_tuple e)
place_set t (Pairs n) = set_over (set_of t 1) n.now
place_set t (Key k) = single nat_cmp (id_tuple k)
place_set t (Keys m) = union_over m.now (λ _. single nat_cmp [])
place_set t There = single nat_cmp []

-- the node is more than a single pair
abbrev pub IsFull : Node → Type 0
IsFull (Single p) = ⊥
IsFull (Full s h a b c) = Unit {0}

-- the node of the place is in the form of its depth
abbrev pub IsFormed : (ℕ → ℕ → ℕ → ℕ → ℕ) → Tables → Location → Type 0
IsFormed mixed t (Triple e) = Unit {0}
IsFormed mixed t (Triples n) = IsNode mixed 3 (set_of t 2) n.now
IsFormed mixed t (Pair e) = Unit {0}
IsFormed mixed t (Pairs n) = (IsNode mixed 2 (set_of t 1) n.now) × (IsFull n.now)
IsFormed mixed t (Key k) = Unit {0}
IsFormed mixed t (Keys m) = Unit {0}
IsFormed mixed t There = Unit {0}

-- every number in the set is that of an id
abbrev pub HasIds : IdSet → Type 0
HasIds H = (u : List ℕ) → has H u ≡ true → IsIdTuple u

-- the tables are kept, by whatever mix of hashes
abbrev pub AreKeptByAMix : Tables → Type 0
AreKeptByAMix t = ∥ ((mixed : ℕ → ℕ → ℕ → ℕ → ℕ) × AreKept mixed t) ∥₁

-- the place is one of kept tables
pub record IsSub (t : Tables) (place : Location) : Type 0 where
  pub mixed : ℕ → ℕ → ℕ → ℕ → ℕ
  pub kept : AreKept mixed t
  pub formed : IsFormed mixed t place
  pub small : HasIds (place_set t place)

-- no place where the set is empty, and else one of this depth that stands for it
abbrev pub IsPlaceOf : Tables → ℕ → IdSet → Option Location → Type 0
IsPlaceOf t d S None = S ≡ empty nat_cmp
IsPlaceOf t d S (Some p) = (S ≢ empty nat_cmp) × (place_set t p ≡ S) × (place_depth p ≡ d) × ∥ IsSub t p ∥₁

-- no edge exactly where the set is empty
abbrev pub IsThereIf : IdSet → Option Edge → Type 0
IsThereIf S None = S ≡ empty nat_cmp
IsThereIf S (Some e) = S ≢ empty nat_cmp

-- the map has exactly the keys at the position
abbrev pub HasKeysAt : IdSet → ℕ → Edges → Type 0
HasKeysAt H i m = (k : ℕ) → IsThereIf (slice nat_cmp H i k) (map.get m k)

-- these are the keys of the set at the position
abbrev pub AreKeysAt : IdSet → ℕ → KeysAt → Type 0
AreKeysAt H i (One x) = (slice nat_cmp H i x.0 ≢ empty nat_cmp) × ((k : ℕ) → k ≢ x.0 → slice nat_cmp H i k ≡ empty nat_cmp)
AreKeysAt H i (Of m) = HasKeysAt H i m.now

-- the edge under a key in the map of a position
abbrev pub found : Option Edges → ℕ → Option Edge
found None k = None
found (Some m) k = map.get m k

abbrev pub edge_at : Node → ℕ → ℕ → Option Edge
edge_at n i k = found (map_at n i) k

-- the place of the pairs that a node of depth two stands for
abbrev pub IsPairsOf : Node → Location → Type 0
IsPairsOf n (Triple e) = ⊥
IsPairsOf n (Triples m) = ⊥
IsPairsOf n (Pair e) = n ≡ Single e
IsPairsOf n (Pairs m) = (m.now ≡ n) × (IsFull n)
IsPairsOf n (Key k) = ⊥
IsPairsOf n (Keys m) = ⊥
IsPairsOf n There = ⊥

-- the row of a root of many triples is there
abbrev pub IsRootThere : Tables → Root → Type 0
IsRootThere t Empty = Unit {0}
IsRootThere t (OneTriple e) = Unit {0}
IsRootThere t (Many row) = IsSome (row_of t 3 row)
