use Rattle.std.proofs.Common.{◌≡◌}
use Rattle.query_plan.specs.Labels.{column_labels}
use Rattle.worked_listings.proofs.listed_rows.values.Given as goal

abbrev pub invariant-loop-row : goal.invariant-loop-row
invariant-loop-row g l = l.lister.columns ≡ column_labels l.query.columns
