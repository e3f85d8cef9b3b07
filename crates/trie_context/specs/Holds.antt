-- Counts of rows, edges into them, and holds: the count of a row less the edges into it from rows one depth above.
use Rattle.std.specs.Prelude.{◌≡◌, ℕ, suc, ◌+◌, ◌-◌, ◌<◌, ◌≤◌, ◌^◌, cond, nat_eq, Option, None, Some}
use Rattle.std.specs.FinMap as map
use Rattle.hypertrie_model.specs.Folds.{sum_over}
use Rattle.node_table.specs.Table.{Row}
use Rattle.trie_node.specs.declared.node.Node.{Node}
use Rattle.trie_node.specs.Sets.{edges_of}
use Rattle.trie_context.specs.declared.tables.Tables.{Tables}
use Rattle.trie_context.specs.Rows.{Rows, table_at, rows_at, row_of}

abbrev pub count_of : Option (Row Node) → ℕ
count_of None = 0
count_of (Some row) = row.count

-- how many edges of these rows lead to row r one depth below
abbrev pub edges_from : Rows → ℕ → ℕ
edges_from rows r = sum_over rows (λ _ row. edges_of row.node r)

-- the holds on row r of a depth, where `all` gives the rows of every depth
abbrev pub holds_over : (ℕ → Rows) → ℕ → ℕ → ℕ
holds_over all d r = count_of (map.get (all d) r) - edges_from (all (suc d)) r

abbrev pub holds_of : Tables → ℕ → ℕ → ℕ
holds_of t d r = holds_over (rows_at t) d r

-- 1 at row k, and 0 elsewhere
abbrev pub one_at : ℕ → ℕ → ℕ
one_at k r = cond (nat_eq r k) 1 0

-- n at the rows of depth d, and 0 at other depths
abbrev pub at_depth : ℕ → (ℕ → ℕ) → ℕ → ℕ → ℕ
at_depth d n e r = cond (nat_eq e d) (n r) 0

-- the count of every row leaves room for more
abbrev pub HasRoom : Tables → Type 0
HasRoom t = (d r : ℕ) (row : Row Node) → row_of t d r ≡ Some row → row.count < 2 ^ 100

-- the count of every row leaves room for one more from each key of a map
abbrev pub HasRoomForMap : Tables → Type 0
HasRoomForMap t = (d r : ℕ) → count_of (row_of t d r) + 2 ^ 32 ≤ 2 ^ 100

-- no count rose by more than this
abbrev pub CountsRiseBy : Tables → Tables → (ℕ → ℕ → ℕ) → Type 0
CountsRiseBy old new most = (d r : ℕ) → count_of (row_of new d r) ≤ count_of (row_of old d r) + most d r

-- each row that was there is there with its node
abbrev pub RowsStay : Tables → Tables → Type 0
RowsStay old new = (d r : ℕ) (row : Row Node) → row_of old d r ≡ Some row → (now : Row Node) × (row_of new d r ≡ Some now) × (now.node ≡ row.node)

-- the same numbers are reserved
abbrev pub SameReserved : Tables → Tables → Type 0
SameReserved old new = (d : ℕ) → (table_at new d).reserved ≡ (table_at old d).reserved

-- no hold on any row
abbrev pub nothing : ℕ → ℕ → ℕ
nothing d r = 0
