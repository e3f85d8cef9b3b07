use Rattle.std.proofs.Common.{sym, ◌∙◌, subst}
use Rattle.graph_view.specs.ReadLaws.{one_known}
use Rattle.graph_view.specs.Views.{graph_in}
use Rattle.graph_listing.specs.Parts.{AreStartsOf}
use Rattle.graph_listing.proofs.StartLemmas.{same_columns, are_starts, starts_known, starts_answer}
use Rattle.graph_listing.proofs.listing.Listing.make.Goals as goal

pub make-requires-clause-starts : goal.make-requires-clause-starts
make-requires-clause-starts g c =
    are_starts c.args.graph.all.dict.now (graph_in c.args.graph) c.args.query.now.patterns c.deref.result.now (subst (AreStartsOf c.args.graph.all.dict.now (graph_in c.args.graph) c.args.query.now.patterns) (sym c.deref.ensures.value) c.in_ok-starts.ensures)

pub invariant_of-result : goal.invariant_of-result
invariant_of-result g c =
    let all = c.args.graph.all in
    starts_known all.dict.now (graph_in c.args.graph) (one_known all.tables.now all.dict.now all.known) c.args.query.now c.requires c.deref.result.now
    (subst (AreStartsOf all.dict.now (graph_in c.args.graph) c.args.query.now.patterns) (sym c.deref.ensures.value) c.in_ok-starts.ensures)
    c.in_ok-lister.lister c.in_ok-lister.ensures.present c.in_ok-lister.ensures.answers

pub returns-clause-columns : goal.returns-clause-columns
returns-clause-columns g c = c.in_ok-lister.ensures.columns ∙ sym (same_columns c.args.query.now.columns)

pub returns-clause-answers : goal.returns-clause-answers
returns-clause-answers g c =
    let all = c.args.graph.all in
    starts_answer all.dict.now (graph_in c.args.graph) (one_known all.tables.now all.dict.now all.known) c.args.query.now c.requires c.deref.result.now
    (subst (AreStartsOf all.dict.now (graph_in c.args.graph) c.args.query.now.patterns) (sym c.deref.ensures.value) c.in_ok-starts.ensures)
    c.in_ok-lister.lister c.in_ok-lister.ensures.answers
