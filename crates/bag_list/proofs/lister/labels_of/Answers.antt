use Rattle.std.proofs.Common.{◌++◌, ◌∷◌, [], sym, ◌∙◌, ap, subst, ◌<◌}
use Rattle.std.proofs.lemmas.List.{map-append, take_more}
use Rattle.std.proofs.lemmas.Option.{get_or_from_slice_get}
use Rattle.std.proofs.Common.{take}
use Rattle.query_plan.specs.Labels.{column_labels}
use Rattle.bag_list.proofs.lister.labels_of.Goals as goal

pub loop-i-preserved : goal.loop-i-preserved
loop-i-preserved c =
    let columns = c.args.columns.now in
    let i = c.loop-i.i in
    let v = c.at.result.now in
    c.in_ok-push.ensures.items
    ∙ ap (λ xs. xs ++ v.label ∷ []) c.loop-i.invariant
    ∙ sym (ap column_labels (take_more columns i v (subst (λ n. i < n) c.len-i-end.ensures c.loop-i-test.true) ∙ ap (λ x. take i columns ++ x ∷ []) (get_or_from_slice_get columns i v v c.at.ensures)) ∙ map-append (λ c. c.label) (take i columns) (v ∷ []))
