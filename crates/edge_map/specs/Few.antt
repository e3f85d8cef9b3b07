-- Few entries as the numbers of their keys and edges.
use Rattle.std.specs.Prelude.{ℕ, List, map}
use Rattle.trie_depth.specs.declared.id.Id.{Id}
use Rattle.edge_map.specs.declared.edge.Edge.{Edge}
use Rattle.edge_map.specs.declared.edge.Edge.TheVariants.{Key, Node}

abbrev pub own_entry : ℕ → Id × Edge
own_entry k = (record { 0 = k }, Key (record { 0 = k }))

abbrev pub key_entry : ℕ × ℕ → Id × Edge
key_entry p = (record { 0 = p.0 }, Key (record { 0 = p.1 }))

abbrev pub row_entry : ℕ × ℕ → Id × Edge
row_entry p = (record { 0 = p.0 }, Node p.1)

-- each key with itself as its edge
abbrev pub own_entries : List ℕ → List (Id × Edge)
own_entries keys = map own_entry keys

-- keys, each with the key that is its edge
abbrev pub key_entries : List (ℕ × ℕ) → List (Id × Edge)
key_entries pairs = map key_entry pairs

-- keys, each with the row that is its edge
abbrev pub row_entries : List (ℕ × ℕ) → List (Id × Edge)
row_entries pairs = map row_entry pairs
