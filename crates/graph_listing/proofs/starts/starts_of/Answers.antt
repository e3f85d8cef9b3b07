use Rattle.std.proofs.Common.{◌<◌, ◌+◌, take, sym, subst}
use Rattle.std.proofs.lemmas.Option.{get_or_from_slice_get}
use Rattle.graph_shape.specs.GraphShapes.{tuples_of}
use Rattle.graph_view.specs.Views.{graph_in}
use Rattle.graph_listing.specs.Parts.{IsStartOf, AreStartsOf}
use Rattle.graph_listing.proofs.PartLemmas.{zip_more}
use Rattle.graph_listing.proofs.starts.starts_of.Goals as goal

pub loop-i-preserved : goal.loop-i-preserved
loop-i-preserved g c =
    let terms = c.args.graph.all.dict.now in
    let G = graph_in c.args.graph in
    let patterns = c.args.patterns.now in
    let i = c.loop-i.i in
    let p = c.at-pattern.result.now in
    subst (AreStartsOf terms G (take (i + 1) patterns)) (sym c.in_ok-push.ensures.items)
    (zip_more (λ p s. IsStartOf terms G s p) patterns c.loop-i.starts.items i p (record { op = c.left_by.result; labels = c.labels_of.result })
    (subst (λ n. i < n) c.len-i-end.ensures c.loop-i-test.true) (get_or_from_slice_get patterns i p p c.at-pattern.ensures) c.loop-i.invariant
    (record { labels = c.labels_of.ensures; part = c.left_by.ensures (tuples_of G) c.triples_of-triples.ensures }))
