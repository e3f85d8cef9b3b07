use Rattle.std.proofs.Common.{◌∙◌, ap}
use Rattle.std.specs.FinSet as set
use Rattle.graph_image.specs.ImageLaws.{tuples_total, tuples_exact}
use Rattle.trie_depth.specs.Tuples.{trip_tuple}
use Rattle.trie_change.specs.Batches.{set_of_entries}
use Rattle.graph_store.proofs.SortedLemmas.{set_inserted}
use Rattle.graph_store.proofs.TripOrder.{trip_cmp, trips_ordered}
use Rattle.graph_store.proofs.trips.Trips.put.Goals as goal

pub returns-clause-ok : goal.returns-clause-ok
returns-clause-ok c =
    ap (set_of_entries trip_tuple) c.in_ok-insert.ensures.keys
    ∙ set_inserted trip_tuple tuples_total tuples_exact trip_cmp trips_ordered c.args.trip c.self.inside.trips.keys
    ∙ ap (λ s. set.insert s (trip_tuple c.args.trip)) c.self.view_is
