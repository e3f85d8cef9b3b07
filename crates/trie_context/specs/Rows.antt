-- The rows of each depth, and the set that each row stands for.
use Rattle.std.specs.Prelude.{◌+◌, ◌-◌, ℕ, zero, suc, Option, None, Some, IsSome, option_map}
use Rattle.std.specs.Ordering.{nat_cmp}
use Rattle.std.specs.FinMap as map
use Rattle.hypertrie_model.specs.IdSets.{IdSet}
use Rattle.hypertrie_model.specs.Sets.{empty}
use Rattle.edge_map.specs.declared.edge.Edge.{Edge}
use Rattle.edge_map.specs.declared.edge.Edge.TheVariants.{Key, Node as ToRow}
use Rattle.node_table.specs.Table.{Row, Table, empty_table, with_row}
use Rattle.trie_node.specs.declared.node.Node.{Node}
use Rattle.trie_node.specs.Sets.{key_set_of, pair_set_of, triple_set_of}
use Rattle.trie_context.specs.declared.tables.Tables.{Tables}

abbrev pub Rows : Type 0
Rows = map.FinMap nat_cmp (Row Node)

-- no rows at any depth
abbrev pub no_tables : Tables
no_tables = record { one = empty_table; two = empty_table; three = empty_table }

-- the table of a depth; no other depth has rows
abbrev pub table_at : Tables → ℕ → Table Node
table_at t zero = empty_table
table_at t (suc zero) = t.one
table_at t (suc (suc zero)) = t.two
table_at t (suc (suc (suc zero))) = t.three
table_at t (suc (suc (suc (suc d)))) = empty_table

-- the tables with another table at a depth
abbrev pub put_table : Tables → ℕ → Table Node → Tables
put_table t zero table = t
put_table t (suc zero) table = record t { one = table }
put_table t (suc (suc zero)) table = record t { two = table }
put_table t (suc (suc (suc zero))) table = record t { three = table }
put_table t (suc (suc (suc (suc d)))) table = t

-- the tables with this row of a depth under a number
abbrev pub put_row : Tables → ℕ → ℕ → Row Node → Tables
put_row t depth number row = put_table t depth (with_row (table_at t depth) number row)

-- the row of a node that comes in, and a row with one hold more, and with one less
abbrev pub new_row : Node → ℕ → Row Node
new_row node hash = record { node = node; count = 1; hash = hash }

abbrev pub one_more : Row Node → Row Node
one_more r = record r { count = r.count + 1 }

abbrev pub one_less : Row Node → Row Node
one_less r = record r { count = r.count - 1 }

abbrev pub rows_at : Tables → ℕ → Rows
rows_at t d = (table_at t d).rows

-- the row of a depth with a number
abbrev pub row_of : Tables → ℕ → ℕ → Option (Row Node)
row_of t d r = map.get (rows_at t d) r

-- the node of the row of a depth with a number
abbrev pub node_of : Tables → ℕ → ℕ → Option Node
node_of t d r = option_map (λ row. row.node) (row_of t d r)

-- the row that the edge leads to is there
abbrev pub LeadsToRow : Tables → ℕ → Edge → Type 0
LeadsToRow t d (Key x) = Unit {0}
LeadsToRow t d (ToRow n) = IsSome (row_of t d n)

-- the set that a node of a depth stands for, over the sets of the rows one depth below
abbrev pub node_set : ℕ → (ℕ → IdSet) → Node → IdSet
node_set zero low node = empty nat_cmp
node_set (suc zero) low node = key_set_of node
node_set (suc (suc zero)) low node = pair_set_of low node
node_set (suc (suc (suc d))) low node = triple_set_of low node

-- the set of the node of a row, empty where there is no row
abbrev pub row_set : (Node → IdSet) → Option (Row Node) → IdSet
row_set set None = empty nat_cmp
row_set set (Some row) = set row.node

-- the set that each row of a depth stands for, where `all` gives the rows of every depth
abbrev pub sets_over : (ℕ → Rows) → ℕ → ℕ → IdSet
sets_over all zero r = empty nat_cmp
sets_over all (suc d) r = row_set (node_set (suc d) (sets_over all d)) (map.get (all (suc d)) r)

-- the set that a row of the tables stands for
abbrev pub set_of : Tables → ℕ → ℕ → IdSet
set_of t d r = sets_over (rows_at t) d r
