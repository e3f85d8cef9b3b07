use Rattle.std.proofs.Common.{◌∙◌, ap}
use Rattle.std.specs.FinMap as map
use Rattle.graph_image.specs.Images.{terms_of}
use Rattle.graph_image.specs.TermLaws.{len-terms}
use Rattle.graph_store.specs.StoreState.{graph}
use Rattle.graph_store.proofs.StandsLemmas.{two_rows, one_rows, figures_triples, figures_terms, figures_two, figures_one}
use Rattle.graph_store.proofs.store.Store.stats.Goals as goal

pub returns-clause-triples : goal.returns-clause-triples
returns-clause-triples g c = c.triples.ensures.value ∙ figures_triples (graph c.args.self.now)

pub returns-clause-terms : goal.returns-clause-terms
returns-clause-terms g c =
    let s = c.args.self.now in
    c.n_terms.ensures ∙ ap map.len c.view.ensures.terms ∙ len-terms s.dict (terms_of (graph s)) c.view.ensures.one c.requires ∙ figures_terms (graph s)

pub returns-clause-two : goal.returns-clause-two
returns-clause-two g c =
    let s = c.args.self.now in
    c.n_pair_rows.ensures ∙ ap (λ t. map.len t.two.rows) c.view.ensures.tables ∙ two_rows g.M.Mix.mixed s c.stands.ensures.stands ∙ figures_two (graph s)

pub returns-clause-one : goal.returns-clause-one
returns-clause-one g c =
    let s = c.args.self.now in
    c.n_key_rows.ensures ∙ ap (λ t. map.len t.one.rows) c.view.ensures.tables ∙ one_rows g.M.Mix.mixed s c.stands.ensures.stands ∙ figures_one (graph s)
