use Rattle.query_forms.proofs.Limits.{tails_as_productions}
use Rattle.query_forms.proofs.limits_by_productions.Goals as goal

pub returns : goal.returns
returns c = tails_as_productions
