use Rattle.std.proofs.Common.{[], sym, subst, IfSome}
use Rattle.bag_model.specs.Listings.{GoesOn, MayGive}
use Rattle.graph_image.specs.Images.{term_at}
use Rattle.graph_view.specs.Read.{has_id}
use Rattle.solution_model.specs.ReadListings.{read_listing, ends_read}
use Rattle.graph_listing.proofs.NextLemmas.{known_next, row_next, none_next}
use Rattle.graph_listing.proofs.listing.Listing.next.Goals as goal

pub invariant_of-self : goal.invariant_of-self
invariant_of-self g c = known_next (has_id c.self.inside.dict.now) c.self.inside.lister c.next.new.self c.next.result c.self.invariant c.next.ensures.row c.next.ensures.stays c.next.ensures.ended

pub returns-clause-row : goal.returns-clause-row
returns-clause-row g c =
    let terms = c.self.inside.dict.now in
    subst (λ v. IfSome c.next.result (λ _. GoesOn v (read_listing (term_at terms) c.next.new.self))) c.self.view_is (row_next (term_at terms) c.self.inside.lister c.next.new.self c.next.result c.next.ensures.row)

pub returns-clause-none : goal.returns-clause-none
returns-clause-none g c =
    let terms = c.self.inside.dict.now in
    let both = none_next (term_at terms) c.self.inside.lister c.next.result c.next.ensures.none in (
      λ e. subst (λ v. MayGive v []) c.self.view_is (both.0 e),
      λ m. both.1 (subst (λ v. MayGive v []) (sym c.self.view_is) m),
    )

pub returns-clause-stays : goal.returns-clause-stays
returns-clause-stays g c e = ends_read (term_at c.self.inside.dict.now) c.next.new.self (c.next.ensures.stays e)
