-- A row opened: its node is out of the table, in the hand of the caller, and its number is reserved.
use Rattle.std.specs.Prelude.{◌≡◌, ◌≢◌, ℕ, ◌+◌, ◌-◌, None, Some, IsSome}
use Rattle.node_table.specs.Table.{Row, Spot, with_row, without_row, reserved_at, with_reserved, without_reserved}
use Rattle.trie_node.specs.declared.node.Node.{Node}
use Rattle.trie_node.specs.Sets.{edges_of, hash_of_node}
use Rattle.trie_context.specs.declared.tables.Tables.{Tables}
use Rattle.trie_context.specs.Rows.{table_at, put_table, row_of, node_of, node_set, set_of}
use Rattle.trie_context.specs.Holds.{holds_of, one_at, at_depth}
use Rattle.trie_context.specs.Kept.{IsNode, AreKept}

-- the table of the depth has the place's number reserved, with its hash
abbrev pub IsReserved : Tables → ℕ → Spot → Type 0
IsReserved t depth place = reserved_at (table_at t depth) place.number ≡ Some place.hash

-- no row of the depth stands for the set of the node
abbrev pub StandsForNoRow : Tables → ℕ → Node → Type 0
StandsForNoRow t depth node =
    (r : ℕ) → IsSome (row_of t depth r) → set_of t depth r ≢ node_set depth (set_of t (depth - 1)) node

-- the tables with the row of the place taken out
abbrev pub opened_at : Tables → ℕ → Spot → Tables
opened_at t depth place =
    put_table t depth (with_reserved (without_row (table_at t depth) place.number) place.number place.hash)

-- the row of a node with one hold, under the hash of the place
abbrev pub one_held : Spot → Node → Row Node
one_held place node = record { node = node; count = 1; hash = place.hash }

-- the tables with a row of this node in the place
abbrev pub closed_at : Tables → ℕ → Spot → Node → Tables
closed_at t depth place node =
    put_table t depth (without_reserved (with_row (table_at t depth) place.number (one_held place node)) place.number)

-- the tables with the place given up
abbrev pub discarded_at : Tables → ℕ → Spot → Tables
discarded_at t depth place = put_table t depth (without_reserved (table_at t depth) place.number)

-- kept tables again, in which the holds of each row rose and fell by these numbers, whichever numbers are reserved
pub record HoldsAreMoved (mixed : ℕ → ℕ → ℕ → ℕ → ℕ) (old new : Tables) (gained given : ℕ → ℕ → ℕ) : Type 0 where
  pub kept : AreKept mixed new
  pub holds : (d r : ℕ) → holds_of new d r + given d r ≡ holds_of old d r + gained d r

-- the row of the place was taken out with its one hold, and the node in hand holds its edges
pub record IsOpened (mixed : ℕ → ℕ → ℕ → ℕ → ℕ) (old new : Tables) (depth : ℕ) (place : Spot) (node : Node) : Type 0 where
  pub was : node_of old depth place.number ≡ Some node
  pub hashed : place.hash ≡ hash_of_node mixed node
  pub free : reserved_at (table_at old depth) place.number ≡ None
  pub gone : new ≡ opened_at old depth place
  pub reserved : IsReserved new depth place
  pub formed : IsNode mixed depth (set_of new (depth - 1)) node
  pub alone : StandsForNoRow new depth node
  pub moved : HoldsAreMoved mixed old new (at_depth (depth - 1) (edges_of node)) (at_depth depth (one_at place.number))

-- a row of the node is in the place, with one hold, and has the node's edges
pub record IsClosed (mixed : ℕ → ℕ → ℕ → ℕ → ℕ) (old new : Tables) (depth : ℕ) (place : Spot) (node : Node) : Type 0 where
  pub there : node_of new depth place.number ≡ Some node
  pub back : new ≡ closed_at old depth place node
  pub moved : HoldsAreMoved mixed old new (at_depth depth (one_at place.number)) (at_depth (depth - 1) (edges_of node))
