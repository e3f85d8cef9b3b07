use Rattle.std.proofs.Common.{[], ◌∷◌, ◌++◌, ◌∙◌, ap}
use Rattle.query_plan.specs.declared.columns.Column.{Column}
use Rattle.query_plan.specs.declared.patterns.Pattern.{Pattern}
use Rattle.worked_graphs.specs.Tried.{labels_at}
use Rattle.worked_graphs.proofs.TriedLemmas.{labelled}
use Rattle.worked_graphs.proofs.listings.query_of.Goals as goal

pub returns-clause-labelled : goal.returns-clause-labelled
returns-clause-labelled c =
    let p : Pattern = record { s = c.in_ok-s.s; p = c.in_ok-p.p; o = c.in_ok-o.o } in
    let column : Column = record { name = c.new.result; label = c.args.column } in
    labelled _ p column (labels_at c.args.labels)
    (c.in_ok-push.ensures.ok ∙ ap (λ ps. ps ++ p ∷ []) c.new-patterns.ensures)
    (c.in_ok-push-2.ensures.ok ∙ ap (λ cs. cs ++ column ∷ []) c.new-columns.ensures)
    (λ j. c.in_ok-s.ensures j ++ (c.in_ok-p.ensures j ++ c.in_ok-o.ensures j))
    c.requires
