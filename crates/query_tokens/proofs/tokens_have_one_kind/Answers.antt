use Rattle.query_tokens.proofs.Apart.{one_kind}
use Rattle.query_tokens.proofs.tokens_have_one_kind.Goals as goal

pub returns : goal.returns
returns c = one_kind
