use Rattle.query_forms.proofs.Named.{names_as_productions}
use Rattle.query_forms.proofs.names_by_productions.Goals as goal

pub returns : goal.returns
returns c = names_as_productions
