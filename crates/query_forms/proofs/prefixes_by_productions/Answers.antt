use Rattle.query_forms.proofs.Prefixed.{prefixes_as_productions}
use Rattle.query_forms.proofs.prefixes_by_productions.Goals as goal

pub returns : goal.returns
returns c = prefixes_as_productions
