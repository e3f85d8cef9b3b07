-- The set that a slice of a graph stands for.
use Rattle.std.specs.Prelude.{ℕ}
use Rattle.std.specs.Ordering.{nat_cmp}
use Rattle.hypertrie_model.specs.IdSets.{IdSet}
use Rattle.hypertrie_model.specs.Slices.{slice}
use Rattle.trie_view.specs.declared.sub.Sub.{Sub}
use Rattle.trie_view.specs.Places.{place_depth, place_set}

-- how many keys each of its tuples has
abbrev pub sub_depth : Sub → ℕ
sub_depth s = place_depth s.place

abbrev pub sub_set : Sub → IdSet
sub_set s = place_set s.tables.now s.place

-- its slice by a key at a position
abbrev pub slice_by : Sub → ℕ → ℕ → IdSet
slice_by s position k = slice nat_cmp (sub_set s) position k
