-- The tables have exactly the rows of the shape of a set of triples.
use Rattle.std.specs.Prelude.{◌≡◌, ℕ, Some}
use Rattle.std.specs.Ordering.{nat_cmp}
use Rattle.hypertrie_model.specs.IdSets.{IdSet}
use Rattle.hypertrie_model.specs.Shapes.{InShape}
use Rattle.node_table.specs.Table.{Row}
use Rattle.trie_node.specs.declared.node.Node.{Node}
use Rattle.trie_context.specs.declared.tables.Tables.{Tables}
use Rattle.trie_context.specs.Rows.{row_of, set_of}
use Rattle.trie_context.specs.Holds.{holds_of, one_at}

-- row g of depth three is held once, and no other row is held
pub record OnlyHeld (t : Tables) (g : ℕ) : Type 0 where
  pub here : (r : ℕ) → holds_of t 3 r ≡ one_at g r
  pub below : (r : ℕ) → (holds_of t 2 r ≡ 0) × (holds_of t 1 r ≡ 0)

-- no row is held
abbrev pub NothingHeld : Tables → Type 0
NothingHeld t = (d r : ℕ) → holds_of t d r ≡ 0

-- a row of the tables with this set and this count
pub record HasRow (t : Tables) (d : ℕ) (S : IdSet) (n : ℕ) : Type 0 where
  pub number : ℕ
  pub row : Row Node
  pub there : row_of t d number ≡ Some row
  pub stands : set_of t d number ≡ S
  pub counts : row.count ≡ n

-- the rows of the tables are those of shape(G), each once
pub record HasShape (t : Tables) (G : IdSet) : Type 0 where
  -- each row, with its set and its count, is one of the shape
  pub sound : (d r : ℕ) (row : Row Node) → row_of t d r ≡ Some row → InShape nat_cmp G d (set_of t d r) row.count
  -- each row of the shape is one of the tables
  pub complete : (d : ℕ) (S : IdSet) (n : ℕ) → InShape nat_cmp G d S n → HasRow t d S n
  -- no two rows of a depth have the same set
  pub single : (d r s : ℕ) (row other : Row Node) → row_of t d r ≡ Some row → row_of t d s ≡ Some other → set_of t d r ≡ set_of t d s → r ≡ s
