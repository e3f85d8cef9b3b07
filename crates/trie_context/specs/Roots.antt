-- The set of a graph by its root, and the hold that the root has.
use Rattle.std.specs.Prelude.{ℕ, ◌≤◌}
use Rattle.std.specs.Ordering.{nat_cmp}
use Rattle.hypertrie_model.specs.IdSets.{IdSet}
use Rattle.hypertrie_model.specs.Sets.{empty, single}
use Rattle.trie_depth.specs.Tuples.{trip_tuple}
use Rattle.trie_context.specs.declared.root.Root.{Root}
use Rattle.trie_context.specs.declared.root.Root.TheVariants.{Empty, One, Many}
use Rattle.trie_context.specs.declared.tables.Tables.{Tables}
use Rattle.trie_context.specs.Rows.{set_of}
use Rattle.trie_context.specs.Holds.{holds_of, one_at, at_depth, nothing}

-- the triples of the graph
abbrev pub root_set : Tables → Root → IdSet
root_set t Empty = empty nat_cmp
root_set t (One triple) = single nat_cmp (trip_tuple triple)
root_set t (Many row) = set_of t 3 row

-- the one hold of a root of many triples
abbrev pub root_hold : Root → ℕ → ℕ → ℕ
root_hold Empty = nothing
root_hold (One triple) = nothing
root_hold (Many row) = at_depth 3 (one_at row)

-- the tables have the hold of the root
abbrev pub IsHeld : Tables → Root → Type 0
IsHeld t Empty = Unit {0}
IsHeld t (One triple) = Unit {0}
IsHeld t (Many row) = 1 ≤ holds_of t 3 row
