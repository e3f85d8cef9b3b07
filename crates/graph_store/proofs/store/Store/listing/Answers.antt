use Rattle.std.proofs.Common.{List, IfOk, subst}
use Rattle.rdf_model.specs.Graph.{Graph}
use Rattle.query_plan.specs.Seen.{query_seen}
use Rattle.bag_model.specs.Listings.{MayGive}
use Rattle.solution_model.specs.Answers.{IsAnswerTo}
use Rattle.solution_model.specs.Rows.{Row}
use Rattle.graph_image.specs.Images.{graph_of}
use Rattle.graph_store.proofs.store.Store.listing.Goals as goal

pub returns-clause-answers : goal.returns-clause-answers
returns-clause-answers g c =
    subst (λ (G : Graph). IfOk c.made.result (λ s. (rows : List Row) → MayGive s rows → IsAnswerTo (query_seen c.args.query.now) G rows))
    (λ j. graph_of (c.view.ensures.terms j) (c.view.ensures.triples j)) c.made.ensures.answers
