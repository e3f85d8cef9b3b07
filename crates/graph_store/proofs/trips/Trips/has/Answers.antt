use Rattle.std.proofs.Common.{sym, ◌∙◌, ap}
use Rattle.hypertrie_model.specs.Sets.{has}
use Rattle.graph_image.specs.ImageLaws.{tuples_total, tuples_exact}
use Rattle.trie_depth.specs.Tuples.{trip_tuple}
use Rattle.graph_store.proofs.SortedLemmas.{has_key}
use Rattle.graph_store.proofs.TripOrder.{trip_cmp, trips_ordered}
use Rattle.graph_store.proofs.trips.Trips.has.Goals as goal

pub returns : goal.returns
returns c = c.contains.ensures ∙ sym (has_key trip_tuple tuples_total tuples_exact trip_cmp trips_ordered c.args.trip c.self.inside.trips.keys) ∙ ap (λ s. has s (trip_tuple c.args.trip)) c.self.view_is
