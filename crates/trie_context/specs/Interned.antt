-- A node put into its table: its row was made, or it was there and the node comes back.
use Rattle.std.specs.Prelude.{◌≡◌, ℕ, ◌-◌, Option, None, Some}
use Rattle.trie_node.specs.declared.node.Node.{Node}
use Rattle.trie_node.specs.Sets.{edges_of}
use Rattle.trie_context.specs.declared.kept.Kept.{Kept}
use Rattle.trie_context.specs.declared.kept.Kept.TheVariants.{Made, Found}
use Rattle.trie_context.specs.declared.tables.Tables.{Tables}
use Rattle.trie_context.specs.Rows.{node_of}
use Rattle.trie_context.specs.Holds.{one_at, at_depth, CountsRiseBy, RowsStay}
use Rattle.trie_context.specs.Kept.{AreMoved}
use Rattle.trie_context.specs.Opened.{StandsForNoRow}

-- the row that is held
abbrev pub kept_row : {L E S : Type 0} → Kept L E S → ℕ
kept_row (Made row) = row
kept_row (Found row node) = row

-- the node that came back
abbrev pub came_back : {L E S : Type 0} → Kept L E S → Option Node
came_back (Made row) = None
came_back (Found row node) = Some node

-- the edges that the new row took over; none where the node came back
abbrev pub edges_taken : Node → Option Node → ℕ → ℕ
edges_taken node None = edges_of node
edges_taken node (Some same) = λ _. 0

-- a node comes back exactly where a row stood for its set, and it is the same node
abbrev pub CameBack : Tables → ℕ → Node → ℕ → Option Node → Type 0
CameBack old depth node row None = StandsForNoRow old depth node
CameBack old depth node row (Some same) = (same ≡ node) × (node_of old depth row ≡ Some node)

-- one hold more on the row of the node
pub record IsInterned (mixed : ℕ → ℕ → ℕ → ℕ → ℕ) (old new : Tables) (depth : ℕ) (node : Node) (row : ℕ) (back : Option Node) : Type 0 where
  pub there : node_of new depth row ≡ Some node
  pub came : CameBack old depth node row back
  pub moved : AreMoved mixed old new (at_depth depth (one_at row)) (at_depth (depth - 1) (edges_taken node back))
  pub counts : CountsRiseBy old new (at_depth depth (one_at row))
  pub stay : RowsStay old new
