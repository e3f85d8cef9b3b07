use Rattle.std.proofs.Common.{rules, ap, codes, ◌≡◌, ◌∙◌}
use Rattle.std.specs.Prelude.{Some}
use Rattle.clap.specs.Walk.{Rule, rule_of}
use Rattle.clap.specs.Simple.{new_rule}
use Rattle.clap.specs.declared.builder.action.ArgAction.TheVariants.{SetTrue}
use Rattle.clap.specs.declared.builder.value_parser.ValueParser.TheVariants.{Bool}
use Rattle.command_words.proofs.command.sort_flag.Goals as goal

pub returns : goal.returns
returns c =
    let given = c.value_parser-2.ensures.given in
    let parser : c.value_parser-2.result.value_parser ≡ Some Bool = given.1 ∙ ap Some (given.2 ∙ c.value_parser.ensures) in
    let before : rule_of c.help.result ≡ record (new_rule (codes "sort")) { long = Some (codes "sort"); action = Some SetTrue } = search rules in
    ap rule_of c.value_parser-2.ensures.others ∙ ap (λ (r : Rule). record r { parser = c.value_parser-2.result.value_parser }) before
    ∙ ap (λ p. record (new_rule (codes "sort")) { long = Some (codes "sort"); action = Some SetTrue; parser = p }) parser
