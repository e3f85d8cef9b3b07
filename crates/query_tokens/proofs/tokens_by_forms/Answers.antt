use Rattle.query_tokens.proofs.Longest.{finds_tokens, finds_gaps}
use Rattle.query_tokens.proofs.tokens_by_forms.Goals as goal

pub returns-clause-tokens : goal.returns-clause-tokens
returns-clause-tokens c = finds_tokens

pub returns-clause-gaps : goal.returns-clause-gaps
returns-clause-gaps c = finds_gaps
