-- The batches of the tests.
use Rattle.std.specs.Prelude.{false, List, [], ◌∷◌, map, refl}
use Rattle.std.specs.List.Sorted.{IsStrictlySortedBy}
use Rattle.hypertrie_model.specs.Changes.{IsChange}
use Rattle.trie_depth.specs.declared.id.Trip.{Trip}
use Rattle.trie_depth.specs.Tuples.{trip_tuple}
use Rattle.trie_change.specs.Batches.{set_of_entries, IsOnce}
use Rattle.trie_change.specs.BatchLaws.{order_once}
use Rattle.worked_tries.proofs.Grown.{trip}
use Rattle.worked_tries.proofs.History.{list_within}

-- ---- two triples of one subject and one predicate

abbrev pub second : List Trip
second = trip 0 1 3 ∷ []

abbrev pub both : List Trip
both = trip 0 1 2 ∷ second

pub both_once : IsOnce trip_tuple both
unfolding IsStrictlySortedBy
both_once = order_once trip_tuple both ((refl, tt), (tt, tt))

pub second_once : IsOnce trip_tuple second
unfolding IsStrictlySortedBy
second_once = order_once trip_tuple second (tt, tt)

pub second_within : IsChange false (set_of_entries trip_tuple both) (set_of_entries trip_tuple second)
second_within = list_within (map trip_tuple both) (map trip_tuple second) (refl, tt)

-- ---- all triples of two keys, and those of an odd sum

abbrev pub cube : List Trip
cube = trip 0 0 0 ∷ trip 0 0 1 ∷ trip 0 1 0 ∷ trip 0 1 1 ∷ trip 1 0 0 ∷ trip 1 0 1 ∷ trip 1 1 0 ∷ trip 1 1 1 ∷ []

abbrev pub odd : List Trip
odd = trip 0 0 1 ∷ trip 0 1 0 ∷ trip 1 0 0 ∷ trip 1 1 1 ∷ []

pub cube_once : IsOnce trip_tuple cube
unfolding IsStrictlySortedBy
cube_once = order_once trip_tuple cube ((refl, (refl, (refl, (refl, (refl, (refl, (refl, tt))))))), ((refl, (refl, (refl, (refl, (refl, (refl, tt)))))), ((refl, (refl, (refl, (refl, (refl, tt))))), ((refl, (refl, (refl, (refl, tt)))), ((refl, (refl, (refl, tt))), ((refl, (refl, tt)), ((refl, tt), (tt, tt))))))))

pub odd_once : IsOnce trip_tuple odd
unfolding IsStrictlySortedBy
odd_once = order_once trip_tuple odd ((refl, (refl, (refl, tt))), ((refl, (refl, tt)), ((refl, tt), (tt, tt))))

pub odd_within : IsChange false (set_of_entries trip_tuple cube) (set_of_entries trip_tuple odd)
odd_within = list_within (map trip_tuple cube) (map trip_tuple odd) (refl, (refl, (refl, (refl, tt))))
