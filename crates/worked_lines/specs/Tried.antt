-- The batches that are tried, and the dictionary.
use Rattle.std.specs.Prelude.{Bool, ◌&&◌, nat_lt, IsSome}
use Rattle.std.specs.FinMap as map
use Rattle.term_dict.specs.Dict.{Terms}
use Rattle.trie_depth.specs.declared.id.Trip.{Trip}

-- each Id of the triple is one of the first four
abbrev pub is_below_four : Trip → Bool
is_below_four t = nat_lt t.0.0 4 && (nat_lt t.1.0 4 && nat_lt t.2.0 4)

-- the first four Ids have terms
abbrev pub HasFour : Terms → Type 0
HasFour terms = IsSome (map.get terms 0) × IsSome (map.get terms 1) × IsSome (map.get terms 2) × IsSome (map.get terms 3)
