use Rattle.std.proofs.Common.{ap, ap₂, ◌∙◌, ◌≡◌, rules}
use Rattle.std.proofs.lemmas.Result.{IfOk-weaker}
use Rattle.clap.specs.Words.{Rule, app_of, with_rule}
use Rattle.command_words.specs.Words.{program}
use Rattle.command_words.proofs.ValueLemmas.{not_global}
use Rattle.command_words.proofs.command.script_command.Goals as goal

pub returns : goal.returns
returns c =
    let sort = c.sort_flag.ensures in
    let triples = c.triples_option.ensures in
    let bytes = c.bytes_option.ensures in
    let none : app_of c.after_help.result ≡ program = search rules in
    let one = c.in_ok-arg.ensures.shape (not_global c.sort_flag.result (ap (λ (r : Rule). r.is_simple) sort)) ∙ ap₂ with_rule none sort in
    let two = c.in_ok-arg-2.ensures.shape (not_global c.triples_option.result (ap (λ (r : Rule). r.is_simple) triples)) ∙ ap₂ with_rule one triples in
    IfOk-weaker c.arg-3.result _ _ (λ r added. added.shape (not_global c.bytes_option.result (ap (λ (r : Rule). r.is_simple) bytes)) ∙ ap₂ with_rule two bytes) c.arg-3.ensures
