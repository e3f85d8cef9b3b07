use Rattle.std.proofs.Common.{sym, ◌∙◌, ap}
use Rattle.std.specs.FinSet as set
use Rattle.graph_image.specs.ImageLaws.{tuples_total, tuples_exact}
use Rattle.trie_depth.specs.Tuples.{trip_tuple}
use Rattle.graph_store.proofs.SortedLemmas.{set_len}
use Rattle.graph_store.proofs.TripOrder.{trip_cmp, trips_ordered}
use Rattle.graph_store.proofs.trips.Trips.len.Goals as goal

pub returns : goal.returns
returns c = c.len.ensures.len ∙ sym (set_len trip_tuple tuples_total tuples_exact trip_cmp trips_ordered c.self.inside.trips.keys c.len.ensures.ordered) ∙ ap set.len c.self.view_is
