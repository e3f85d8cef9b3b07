use Rattle.std.proofs.Common.{sym, ◌∙◌, subst}
use Rattle.std.specs.FinSet as set
use Rattle.graph_image.specs.Images.{AreKnown}
use Rattle.graph_image.specs.ImageLaws.{len-graph_of}
use Rattle.graph_store.specs.Staging.{staged_graph}
use Rattle.graph_store.proofs.store.Store.n_staged.Goals as goal

pub returns : goal.returns
returns g c =
    let d = c.self.inside.dict in
    let trips = c.staged.inside.trips in
    c.len.ensures
    ∙ sym (len-graph_of d c.is_one_to_one.ensures trips (subst (λ x. AreKnown x.dict trips) (sym c.self.view_is) (subst (λ b. AreKnown c.args.self.now.dict b.triples) (sym c.staged.view_is) c.requires.known)))
    ∙ (λ j. set.len (staged_graph (c.self.view_is j) (c.staged.view_is j)))
