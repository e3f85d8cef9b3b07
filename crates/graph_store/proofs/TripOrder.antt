-- The order of triples of Ids is that of their tuples, and the order of Ids that of their numbers.
use Rattle.std.proofs.Common.{◌≡◌, ℕ, refl, sym, ap}
use Rattle.std.specs.declared.cmp.Ordering.{Ordering}
use Rattle.std.specs.Ordering.{nat_cmp, ordering_then}
use Rattle.std.specs.Cmp.Lexicographic.{slice_cmp}
use Rattle.trie_depth.specs.declared.id.Id.{Id}
use Rattle.trie_depth.specs.declared.id.Trip.{Trip}
use Rattle.trie_depth.specs.Tuples.{trip_tuple}
use Rattle.graph_store.proofs.SortedLemmas.{then-equal}

abbrev pub trip_cmp : Trip → Trip → Ordering
trip_cmp a b = ordering_then (nat_cmp a.0.0 b.0.0) (ordering_then (nat_cmp a.1.0 b.1.0) (nat_cmp a.2.0 b.2.0))

pub trips_ordered : (a b : Trip) → trip_cmp a b ≡ slice_cmp nat_cmp (trip_tuple a) (trip_tuple b)
trips_ordered a b = ap (λ r. ordering_then (nat_cmp a.0.0 b.0.0) (ordering_then (nat_cmp a.1.0 b.1.0) r)) (sym (then-equal (nat_cmp a.2.0 b.2.0)))

abbrev pub id_number : Id → ℕ
id_number id = id.0

abbrev pub id_cmp : Id → Id → Ordering
id_cmp a b = nat_cmp a.0 b.0

pub ids_ordered : (a b : Id) → id_cmp a b ≡ nat_cmp (id_number a) (id_number b)
ids_ordered a b = refl
