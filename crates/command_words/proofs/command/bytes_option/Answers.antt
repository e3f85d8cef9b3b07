use Rattle.std.proofs.Common.{rules, ap, ap₂, codes, ◌≡◌, ◌∙◌}
use Rattle.std.specs.Prelude.{Some}
use Rattle.clap.specs.Walk.{Rule, rule_of}
use Rattle.clap.specs.Simple.{new_rule}
use Rattle.command_words.proofs.ValueLemmas.{u64_within}
use Rattle.command_words.specs.Words.{bytes_parser}
use Rattle.command_words.proofs.command.bytes_option.Goals as goal

pub returns : goal.returns
returns c =
    let given = c.value_parser-2.ensures.given in
    let made : c.range.result ≡ bytes_parser = (rw c.value_parser.ensures at c.range.ensures) ∙ ap₂ u64_within c.new-2.ensures.start c.new-2.ensures.end in
    let parser : c.value_parser-2.result.value_parser ≡ Some bytes_parser = given.1 ∙ ap Some (given.2 ∙ made) in
    let before : rule_of c.help.result ≡ record (new_rule (codes "max-bytes")) { long = Some (codes "max-bytes"); value_names = 1 } = search rules in
    ap rule_of c.value_parser-2.ensures.others ∙ ap (λ (r : Rule). record r { parser = c.value_parser-2.result.value_parser }) before
    ∙ ap (λ p. record (new_rule (codes "max-bytes")) { long = Some (codes "max-bytes"); value_names = 1; parser = p }) parser
