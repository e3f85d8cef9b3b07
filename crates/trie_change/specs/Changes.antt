-- What a change makes of a set.
use Rattle.std.specs.Prelude.{ℕ, ◌+◌, ◌-◌, ◌<◌, ◌≤◌, ◌^◌, Bool, true, false, Option, None, Some}
use Rattle.trie_depth.specs.declared.id.Id.{Id}
use Rattle.trie_depth.specs.declared.id.Pair.{Pair}
use Rattle.edge_map.specs.declared.edge.Edge.{Edge}
use Rattle.edge_map.specs.declared.edge.Edge.TheVariants.{Key}
use Rattle.trie_change.specs.declared.change.Change.{Change}
use Rattle.trie_change.specs.declared.change.Change.TheVariants.{Grow, Shrink}

-- whether the change puts its entries in
abbrev pub grows : Change → Bool
grows Grow = true
grows Shrink = false

-- the key behind the first put in under itself, or taken out
abbrev pub key_change : Change → Pair → Id × Option Edge
key_change Grow p = (p.1, Some (Key p.1))
key_change Shrink p = (p.1, None)

-- the size after a change by so many
abbrev pub size_after : Change → ℕ → ℕ → ℕ
size_after Grow size by = size + by
size_after Shrink size by = size - by

-- the new size is a number of 64 bits
abbrev pub HasSize : Change → ℕ → ℕ → Type 0
HasSize Grow size by = size + by < 2 ^ 64
HasSize Shrink size by = by ≤ size
