use Rattle.std.proofs.Common.{◌≡◌, sym, ◌∙◌, ap, subst}
use Rattle.std.proofs.lemmas.Map.Iter.{iter_end}
use Rattle.graph_image.specs.ImageLaws.{tuples_total, tuples_exact}
use Rattle.trie_depth.specs.Tuples.{trip_tuple}
use Rattle.trie_change.specs.Batches.{set_of_entries, IsOnce}
use Rattle.graph_store.proofs.SortedLemmas.{map_itself, set_len}
use Rattle.graph_store.proofs.TripOrder.{trip_cmp, trips_ordered}
use Rattle.graph_store.proofs.trips.Trips.listed.Goals as goal
use Rattle.graph_store.proofs.trips.Trips.listed.Goals.{After-drop-trip-iterator-2}

all : (c : After-drop-trip-iterator-2) → c.loop-trip.list.items ≡ c.self.inside.trips.keys
all c =
    let e = iter_end (λ x. x) c.self.inside.trips.keys c.loop-trip.yielded c.into_iter-trip-iterator.result c.loop-trip.trip-iterator c.next.new.self c.next.result c.into_iter-trip-iterator.ensures.into_iter_gives.0 c.loop-trip.yielded_by c.in-None.is c.next.ensures.steps in
    c.loop-trip.invariant ∙ sym (map_itself c.loop-trip.yielded) ∙ e.0

pub returns-clause-set : goal.returns-clause-set
returns-clause-set c = ap (set_of_entries trip_tuple) (all c) ∙ c.self.view_is

pub returns-clause-once : goal.returns-clause-once
returns-clause-once c = subst (IsOnce trip_tuple) (sym (all c)) (set_len trip_tuple tuples_total tuples_exact trip_cmp trips_ordered c.self.inside.trips.keys c.len.ensures.ordered)
