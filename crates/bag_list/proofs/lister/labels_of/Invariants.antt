use Rattle.std.proofs.Common.{◌≡◌, take}
use Rattle.query_plan.specs.Labels.{column_labels}
use Rattle.bag_list.proofs.lister.labels_of.Given as goal

abbrev pub invariant-loop-i : goal.invariant-loop-i
invariant-loop-i l = l.labels.items ≡ column_labels (take l.i l.columns)
