-- The chunks of a map: one whose entries lie in the map itself, in a block of their own or in what is shared, or several in pages.
use Rattle.std.specs.Prelude.{List, [], ◌∷◌}
use Rattle.trie_depth.specs.declared.id.Id.{Id}
use Rattle.edge_map.specs.declared.edge.Edge.{Edge}
use Rattle.edge_map.specs.declared.edge.Edge.TheVariants.{Key, Node}
use Rattle.edge_map.specs.declared.list.Listed.{Listed}
use Rattle.edge_map.specs.declared.list.Listed.TheVariants.{Nothing, OneKey, OneRow, TwoOwn, ThreeOwn, Own, Keys, MoreKeys, Rows, Packed, Many}
use Rattle.edge_map.specs.declared.lent.Lent.{Lent}
use Rattle.edge_map.specs.declared.lent.Lent.TheVariants.{Short, Long}
use Rattle.edge_map.specs.Chunks.{chunk_of}
use Rattle.edge_map.specs.Few.{own_entries, key_entries, row_entries}

abbrev pub chunks_in : Listed → List (List (Id × Edge))
chunks_in Nothing = []
chunks_in (OneKey k other) = chunk_of ((k, Key other) ∷ [])
chunks_in (OneRow k row) = chunk_of ((k, Node row) ∷ [])
chunks_in (TwoOwn keys) = chunk_of (own_entries keys)
chunks_in (ThreeOwn keys) = chunk_of (own_entries keys)
chunks_in (Own keys) = chunk_of (own_entries keys.value.items)
chunks_in (Keys pairs) = chunk_of (key_entries pairs.value.items)
chunks_in (MoreKeys pairs) = chunk_of (key_entries pairs.value.items)
chunks_in (Rows pairs) = chunk_of (row_entries pairs.value.items)
chunks_in (Packed p) = chunk_of p.value
chunks_in (Many long) = long.value

-- the chunks that are lent
abbrev pub chunks_lent : Lent → List (List (Id × Edge))
chunks_lent (Short es) = chunk_of es
chunks_lent (Long long) = long.now
