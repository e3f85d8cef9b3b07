-- Kept tables: what holds of the rows of every depth before and after each call.
use Rattle.std.specs.Prelude.{◌≡◌, ℕ, zero, suc, ◌+◌, ◌-◌, ◌≤◌, Some}
use Rattle.std.specs.FinMap as map
use Rattle.hypertrie_model.specs.IdSets.{IdSet}
use Rattle.node_table.specs.Table.{Row}
use Rattle.trie_node.specs.declared.node.Node.{Node}
use Rattle.trie_node.specs.Sets.{set_hash, hash_of_node, edges_of}
use Rattle.trie_node.specs.Forms.{IsKeyNode, IsPairNode, IsTripleNode}
use Rattle.trie_context.specs.declared.tables.Tables.{Tables}
use Rattle.trie_context.specs.Rows.{Rows, rows_at, sets_over}
use Rattle.trie_context.specs.Holds.{count_of, edges_from, holds_of, one_at, at_depth, SameReserved}

-- a node of a depth in its form: Single is one pair, and every other node has two tuples or more and carries the size and the hash of its set;
-- its maps have exactly the keys of their positions, and an edge stands for the slice by its key;
-- an edge leads to a row one depth below that is there, but at depth two, where a slice of one key is that key
abbrev pub IsNode : (ℕ → ℕ → ℕ → ℕ → ℕ) → ℕ → (ℕ → IdSet) → Node → Type 0
IsNode mixed zero low node = ⊥
IsNode mixed (suc zero) low node = IsKeyNode (set_hash mixed 1) node
IsNode mixed (suc (suc zero)) low node = IsPairNode (set_hash mixed 2) low node
IsNode mixed (suc (suc (suc d))) low node = IsTripleNode (set_hash mixed 3) low node

-- the rows of depth d + 1, where `all` gives the rows of every depth
pub record AreRowsKept (mixed : ℕ → ℕ → ℕ → ℕ → ℕ) (all : ℕ → Rows) (d : ℕ) : Type 0 where
  -- each node is in its form
  pub formed : (r : ℕ) (row : Row Node) → map.get (all (suc d)) r ≡ Some row → IsNode mixed (suc d) (sets_over all d) row.node
  -- each row stands under the hash of its node
  pub hashed : (r : ℕ) (row : Row Node) → map.get (all (suc d)) r ≡ Some row → row.hash ≡ hash_of_node mixed row.node
  -- no two rows have the same node, and so none the same set
  pub apart : (r s : ℕ) (row other : Row Node) → map.get (all (suc d)) r ≡ Some row → map.get (all (suc d)) s ≡ Some other → row.node ≡ other.node → r ≡ s
  -- something leads to each row
  pub live : (r : ℕ) (row : Row Node) → map.get (all (suc d)) r ≡ Some row → 1 ≤ row.count
  -- its count is at least the edges into it
  pub fair : (r : ℕ) → edges_from (all (suc (suc d))) r ≤ count_of (map.get (all (suc d)) r)

abbrev pub AllKept : (ℕ → ℕ → ℕ → ℕ → ℕ) → (ℕ → Rows) → Type 0
AllKept mixed all = (d : ℕ) → AreRowsKept mixed all d

abbrev pub AreKept : (ℕ → ℕ → ℕ → ℕ → ℕ) → Tables → Type 0
AreKept mixed t = AllKept mixed (rows_at t)

-- kept tables again, in which the holds of each row rose and fell by these numbers
pub record AreMoved (mixed : ℕ → ℕ → ℕ → ℕ → ℕ) (old new : Tables) (gained given : ℕ → ℕ → ℕ) : Type 0 where
  pub kept : AreKept mixed new
  pub holds : (d r : ℕ) → holds_of new d r + given d r ≡ holds_of old d r + gained d r
  pub reserved : SameReserved old new

-- one hold on the row is in hand, where those of the node's edges were
abbrev pub IsStored : (ℕ → ℕ → ℕ → ℕ → ℕ) → ℕ → Tables → Tables → ℕ → Node → Type 0
IsStored mixed depth old new row node = AreMoved mixed old new (at_depth depth (one_at row)) (at_depth (depth - 1) (edges_of node))
