use Rattle.std.proofs.Common.{◌∙◌, ap, sym, arith}
use Rattle.script_read.specs.Forms.{some_where}
use Rattle.script_read.proofs.WordLemmas.{scope_is_name}
use Rattle.script_read.proofs.words.scope.Goals as goal

pub returns : goal.returns
returns c = c.name.ensures ∙ sym (ap (λ z. some_where z c.args.word.now) (scope_is_name c.args.word.now (grind arith) cc))
