use Rattle.std.proofs.Common.{◌≡◌, List, ℕ, Option, subst}
use Rattle.std.specs.Prelude.{IfOk}
use Rattle.query_text.proofs.EscapesRead.{string_is}
use Rattle.query_text.proofs.meaning.string_text.Goals as goal

pub returns : goal.returns
returns c = subst (λ (m : Option (List ℕ)). IfOk c.unescape.result (λ r. r ≡ m)) (string_is c.args.token.now c.within_quotes.result.now c.within_quotes.ensures) c.unescape.ensures
