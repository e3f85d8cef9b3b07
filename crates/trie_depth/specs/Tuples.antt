-- The tuples of numbers that ids, pairs and triples stand for, and their positions.
use Rattle.std.specs.Prelude.{ℕ, zero, suc, List, [], ◌∷◌}
use Rattle.trie_depth.specs.declared.id.Id.{Id}
use Rattle.trie_depth.specs.declared.id.Pair.{Pair}
use Rattle.trie_depth.specs.declared.id.Trip.{Trip}

abbrev pub id_tuple : Id → List ℕ
id_tuple e = e.0 ∷ []

abbrev pub pair_tuple : Pair → List ℕ
pair_tuple e = e.0.0 ∷ e.1.0 ∷ []

abbrev pub trip_tuple : Trip → List ℕ
trip_tuple e = e.0.0 ∷ e.1.0 ∷ e.2.0 ∷ []

-- the key at a position of a pair
abbrev pub pair_key : Pair → ℕ → Id
pair_key e zero = e.0
pair_key e (suc i) = e.1

-- the pair with a position taken out
abbrev pub pair_without : Pair → ℕ → Id
pair_without e zero = e.1
pair_without e (suc i) = e.0

-- the pair with a key put in at a position
abbrev pub pair_with : Id → ℕ → Id → Pair
pair_with e zero k = record { 0 = k; 1 = e }
pair_with e (suc i) k = record { 0 = e; 1 = k }

-- the key at a position of a triple
abbrev pub trip_key : Trip → ℕ → Id
trip_key e zero = e.0
trip_key e (suc zero) = e.1
trip_key e (suc (suc i)) = e.2

-- the triple with a position taken out
abbrev pub trip_without : Trip → ℕ → Pair
trip_without e zero = record { 0 = e.1; 1 = e.2 }
trip_without e (suc zero) = record { 0 = e.0; 1 = e.2 }
trip_without e (suc (suc i)) = record { 0 = e.0; 1 = e.1 }

-- the triple with a key put in at a position
abbrev pub trip_with : Pair → ℕ → Id → Trip
trip_with e zero k = record { 0 = k; 1 = e.0; 2 = e.1 }
trip_with e (suc zero) k = record { 0 = e.0; 1 = k; 2 = e.1 }
trip_with e (suc (suc i)) k = record { 0 = e.0; 1 = e.1; 2 = k }
