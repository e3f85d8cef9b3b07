use Rattle.query_forms.proofs.Lexed.{lexes_as_productions}
use Rattle.query_forms.proofs.tokens_by_productions.Goals as goal

pub returns : goal.returns
returns c = lexes_as_productions
