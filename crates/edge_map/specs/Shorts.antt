-- The entries of a map of at most one chunk, in place, in a block of their own or shared.
use Rattle.std.specs.Prelude.{List, [], ◌∷◌}
use Rattle.trie_depth.specs.declared.id.Id.{Id}
use Rattle.edge_map.specs.declared.edge.Edge.{Edge}
use Rattle.edge_map.specs.declared.edge.Edge.TheVariants.{Key, Node}
use Rattle.edge_map.specs.declared.short.Seen.{Seen}
use Rattle.edge_map.specs.declared.short.Seen.TheVariants.{Nothing, OneKey, OneRow, Own, Keys, Rows, Packed}
use Rattle.edge_map.specs.Few.{own_entries, key_entries, row_entries}

abbrev pub entries_seen : Seen → List (Id × Edge)
entries_seen Nothing = []
entries_seen (OneKey k other) = (k, Key other) ∷ []
entries_seen (OneRow k row) = (k, Node row) ∷ []
entries_seen (Own keys) = own_entries keys.now
entries_seen (Keys pairs) = key_entries pairs.now
entries_seen (Rows pairs) = row_entries pairs.now
entries_seen (Packed p) = p.now
