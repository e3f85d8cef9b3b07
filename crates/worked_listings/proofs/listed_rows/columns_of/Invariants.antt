use Rattle.std.proofs.Common.{◌≡◌, take}
use Rattle.query_plan.specs.Labels.{column_labels}
use Rattle.worked_listings.proofs.listed_rows.columns_of.Given as goal

abbrev pub invariant-loop-label : goal.invariant-loop-label
invariant-loop-label l = column_labels l.columns ≡ take l.label-index l.labels
