-- Entries and changes that are being merged.
use Rattle.std.specs.Prelude.{ℕ, ◌+◌, List, ◌++◌, length}
use Rattle.trie_depth.specs.declared.id.Id.{Id}
use Rattle.edge_map.specs.declared.edge.Edge.{Edge}
use Rattle.edge_map.specs.declared.merging.Merging.{Merging}
use Rattle.edge_map.specs.Entries.{merged}

-- the new entries, and behind them what is left with its changes made
abbrev pub whole : List (Id × Edge) → Merging → List (Id × Edge)
whole new left = new ++ merged left.entries.now left.changes.now

abbrev pub n_left : Merging → ℕ
n_left left = length left.entries.now + length left.changes.now
