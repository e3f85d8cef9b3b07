-- The tables of a store are the shape of its graph: no more rows than it asks for, and none of them twice.
use Rattle.std.specs.Prelude.{◌≡◌, ℕ, ◌≤◌, ◌↔◌, Some}
use Rattle.std.specs.FinSet as set
use Rattle.hypertrie_model.specs.Sets.{TupleSet}
use Rattle.hypertrie_model.specs.Shapes.{InShape}
use Rattle.rdf_model.specs.Graph.{term_cmp}
use Rattle.tuple_image.specs.TupleImages.{tuple_image}
use Rattle.graph_shape.specs.GraphShapes.{tuples_of}
use Rattle.graph_image.specs.Images.{term_at}
use Rattle.node_table.specs.Table.{Row}
use Rattle.trie_node.specs.declared.node.Node.{Node}
use Rattle.trie_context.specs.declared.root.Root.{Root}
use Rattle.trie_context.specs.declared.root.Root.TheVariants.{Empty, One, Many}
use Rattle.trie_context.specs.Rows.{row_of, set_of}
use Rattle.trie_context.specs.Kept.{AreKept}
use Rattle.graph_store.specs.StoreState.{StoreState, graph}

-- the set of the row of a depth with this number, read through the dictionary
abbrev pub row_tuples : StoreState → ℕ → ℕ → TupleSet term_cmp
row_tuples s d r = tuple_image term_cmp (term_at s.dict) (set_of s.tables d r)

-- a row of the tables with these tuples of terms and this count
pub record HasRow (s : StoreState) (d : ℕ) (T : TupleSet term_cmp) (n : ℕ) : Type 0 where
  pub number : ℕ
  pub row : Row Node
  pub there : row_of s.tables d number ≡ Some row
  pub stands : row_tuples s d number ≡ T
  pub counts : row.count ≡ n

-- the root holds a row
abbrev pub IsMany : Root → Type 0
IsMany Empty = ⊥
IsMany (One triple) = ⊥
IsMany (Many row) = Unit {0}

-- by the mix that the store hashes with
pub record Stands (mixed : ℕ → ℕ → ℕ → ℕ → ℕ) (s : StoreState) : Type 0 where
  -- the tables are kept: each set stands once, and is counted as often as something leads to it
  pub kept : AreKept mixed s.tables
  -- each row, with its tuples and its count, is one of the shape of the graph
  pub sound : (d r : ℕ) (row : Row Node) → row_of s.tables d r ≡ Some row → InShape term_cmp (tuples_of (graph s)) d (row_tuples s d r) row.count
  -- each row of the shape is one of the tables
  pub complete : (d : ℕ) (T : TupleSet term_cmp) (n : ℕ) → InShape term_cmp (tuples_of (graph s)) d T n → HasRow s d T n
  -- no two rows of a depth have the same tuples
  pub single : (d q r : ℕ) (row other : Row Node) → row_of s.tables d q ≡ Some row → row_of s.tables d r ≡ Some other → row_tuples s d q ≡ row_tuples s d r → q ≡ r
  -- the root holds a row exactly where there are two or more triples
  pub root : IsMany s.root ↔ (2 ≤ set.len (graph s))
