use Rattle.std.proofs.Common.{sym, ◌∙◌, ap, subst, None, Some, IsSome}
use Rattle.std.specs.Option.{option_map}
use Rattle.rdf_term.specs.Seen.{lent_term}
use Rattle.graph_image.specs.ImageLaws.{term_is}
use Rattle.graph_listing.proofs.ValueLemmas.{id_there, value_there}
use Rattle.graph_listing.proofs.listing.Listing.value.Goals as goal

pub returns-in_err-id-clause-value : goal.returns-in_err-id-clause-value
returns-in_err-id-clause-value c row e =
    let terms = c.self.inside.dict.now in
    value_there terms c.self.inside.lister.present c.args.col None (option_map lent_term c.from_residual.result) (sym (ap (option_map lent_term) c.from_residual.ensures)) (λ r at. c.in_err-id.ensures.value r at) row (ap (λ v. v.present) c.self.view_is ∙ e)

pub term-requires : goal.term-requires
term-requires c =
    let terms = c.self.inside.dict.now in
    id_there terms c.self.inside.lister.present c.args.col c.in_ok-id.id.0 c.self.invariant.present (subst (λ v. IsSome v.present) (sym c.self.view_is) c.requires.given) (λ r at. c.in_ok-id.ensures.value r at)

pub returns-clause-value : goal.returns-clause-value
returns-clause-value c row e =
    let terms = c.self.inside.dict.now in
    value_there terms c.self.inside.lister.present c.args.col (Some c.in_ok-id.id.0) (Some (lent_term c.term.result)) (ap Some (term_is terms c.in_ok-id.id.0 (lent_term c.term.result) c.term.ensures)) (λ r at. c.in_ok-id.ensures.value r at) row (ap (λ v. v.present) c.self.view_is ∙ e)
