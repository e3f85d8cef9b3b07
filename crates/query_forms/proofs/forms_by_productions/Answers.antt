use Rattle.query_forms.proofs.Queries.{all_forms_as_productions}
use Rattle.query_forms.proofs.forms_by_productions.Goals as goal

pub returns : goal.returns
returns c = all_forms_as_productions
