use Rattle.std.proofs.Common.{sym, ◌∙◌}
use Rattle.worked_listings.proofs.TriedLemmas.{trial-labelled, trial-starts-equal, triples-some}
use Rattle.worked_listings.proofs.listed_rows.listed.Goals as goal

pub values-requires-clause-labels : goal.values-requires-clause-labels
values-requires-clause-labels c = trial-labelled _ c.args.labels.now c.args.columns.now c.in_ok-patterns_of.ensures c.in_ok-columns_of.ensures c.requires.labels

pub values-requires-clause-starts : goal.values-requires-clause-starts
values-requires-clause-starts c =
    trial-starts-equal _ _ c.of.result c.args.labels.now c.deref.result.now _ (c.deref.ensures.value ∙ c.in_ok-starts.ensures) c.in_ok-patterns_of.ensures c.of.ensures.depth
    (λ e. triples-some c.args.list.now c.requires.list (sym c.of.ensures.tuples ∙ e))
