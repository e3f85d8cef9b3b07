use Rattle.query_forms.proofs.Meant.{mean_as_productions}
use Rattle.query_forms.proofs.texts_by_productions.Goals as goal

pub returns : goal.returns
returns c = mean_as_productions
