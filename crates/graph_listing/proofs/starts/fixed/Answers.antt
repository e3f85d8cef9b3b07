use Rattle.std.proofs.Common.{◌≡◌, ◌-◌, sym, ◌∙◌, ap, subst, refl, Some, IfSome}
use Rattle.trie_view.specs.Subs.{sub_depth}
use Rattle.rdf_term.specs.Seen.{term_of}
use Rattle.query_plan.specs.Seen.{place_seen}
use Rattle.term_dict.specs.Dict.{IsNew}
use Rattle.solution_model.specs.Rests.{slice_by}
use Rattle.graph_listing.specs.Parts.{IsPart, n_left}
use Rattle.graph_listing.proofs.PartLemmas.{unknown, at_term, one_fewer, as_none}
use Rattle.graph_listing.proofs.starts.fixed.Goals as goal

pub returns-in_err-id-in-Const-clause-part : goal.returns-in_err-id-in-Const-clause-part
returns-in_err-id-in-Const-clause-part g c T d i is lt le part =
    let terms = c.args.dict.now in
    subst (λ p. IsPart terms (slice_by (place_seen p) i T) (n_left p d) c.from_residual.result) (sym c.in-Const.is)
    (as_none c.from_residual.ensures
    (unknown terms c.find.ensures.one T d (d - 1) i (Some c.args.tuples) (term_of c.in-Const.term) (subst (IsNew terms) c.lent.ensures (c.in_err-id-in-Const.ensures.none refl)) part))

pub returns-in_ok-id-in-Const-clause-depth : goal.returns-in_ok-id-in-Const-clause-depth
returns-in_ok-id-in-Const-clause-depth g c =
    subst (λ p. IfSome c.fix.result (λ s. sub_depth s ≡ n_left p (sub_depth c.args.tuples))) (sym c.in-Const.is)
    (one_fewer c.fix.result (sub_depth c.args.tuples) c.args.mask.0 c.requires.one c.fix.ensures.depth)

pub returns-in_ok-id-in-Const-clause-part : goal.returns-in_ok-id-in-Const-clause-part
returns-in_ok-id-in-Const-clause-part g c T d i is lt le part =
    let terms = c.args.dict.now in
    subst (λ p. IsPart terms (slice_by (place_seen p) i T) (n_left p d) c.fix.result) (sym c.in-Const.is)
    (at_term terms c.find.ensures.one T d i c.args.tuples c.fix.result c.args.mask.0 c.in_ok-id-in-Const.id.0 (term_of c.in-Const.term) (c.in_ok-id-in-Const.ensures.found ∙ ap Some c.lent.ensures) is lt le c.requires.fits part c.fix.ensures.none c.fix.ensures.some c.fix.ensures.depth)
