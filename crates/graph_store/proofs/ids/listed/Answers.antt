use Rattle.std.proofs.Common.{◌≡◌, ◌++◌, ◌∷◌, [], ◌∙◌, ap, get_or}
use Rattle.std.proofs.lemmas.List.{take_all}
use Rattle.trie_depth.specs.declared.id.Trip.{Trip}
use Rattle.graph_store.specs.Staging.{ids_of_all}
use Rattle.graph_store.proofs.IdsLemmas.{ids_next}
use Rattle.graph_store.proofs.ids.listed.Goals as goal

pub loop-trip-preserved : goal.loop-trip-preserved
loop-trip-preserved c =
    let none : Trip = record { 0 = record { 0 = 0 }; 1 = record { 0 = 0 }; 2 = record { 0 = 0 } } in
    let t = get_or c.args.batch.now c.loop-trip.trip-index none in
    c.in_ok-push-3.ensures.items ∙ ap (λ l. l ++ t.2 ∷ []) (c.in_ok-push-2.ensures.items ∙ ap (λ l. l ++ t.1 ∷ []) c.in_ok-push.ensures.items)
    ∙ ids_next c.args.batch.now c.loop-trip.trip-index none c.loop-trip-test.true c.loop-trip.ids.items c.loop-trip.invariant

pub returns : goal.returns
returns c = c.loop-trip.invariant ∙ ap ids_of_all (take_all c.loop-trip.trip-index c.args.batch.now c.loop-trip-test.false)
