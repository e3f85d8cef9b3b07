-- Batches of entries, the sets that they are, and their order.
use Rattle.std.specs.Prelude.{◌≡◌, ℕ, zero, suc, List, [], ◌∷◌, length, map}
use Rattle.std.specs.List.Sorted.{IsStrictlySortedBy}
use Rattle.std.specs.Ordering.{nat_cmp}
use Rattle.std.specs.Cmp.Lexicographic.{slice_cmp}
use Rattle.std.specs.FinSet as set
use Rattle.hypertrie_model.specs.IdSets.{IdSet}
use Rattle.trie_depth.specs.declared.id.Pair.{Pair}
use Rattle.trie_depth.specs.declared.id.Trip.{Trip}

-- the set of the tuples of the entries
abbrev pub set_of_entries : {E : Type 0} → (E → List ℕ) → List E → IdSet
set_of_entries tuple es = set.from_list (map tuple es)

-- the entries rise by their tuples, so each is there once
abbrev pub AreInOrder : {E : Type 0} → (E → List ℕ) → List E → Type 0
AreInOrder tuple es = IsStrictlySortedBy (slice_cmp nat_cmp) (map tuple es)

-- each entry is there once
abbrev pub IsOnce : {E : Type 0} → (E → List ℕ) → List E → Type 0
IsOnce tuple es = set.len (set_of_entries tuple es) ≡ length es

-- what is left of a pair behind its first key
abbrev pub pair_rest : Pair → List ℕ
pair_rest p = p.1.0 ∷ []

-- what is left of a triple behind its first key
abbrev pub trip_rest : Trip → List ℕ
trip_rest t = t.1.0 ∷ t.2.0 ∷ []

-- the triple with the key of a position first
abbrev pub trip_in_front : ℕ → Trip → Trip
trip_in_front zero t = t
trip_in_front (suc zero) t = record { 0 = t.1; 1 = t.0; 2 = t.2 }
trip_in_front (suc (suc i)) t = record { 0 = t.2; 1 = t.0; 2 = t.1 }

-- what is left of the triple behind its first key, with the key of a position of that first
abbrev pub pair_in_front : ℕ → Trip → Pair
pair_in_front zero t = record { 0 = t.1; 1 = t.2 }
pair_in_front (suc i) t = record { 0 = t.2; 1 = t.1 }
