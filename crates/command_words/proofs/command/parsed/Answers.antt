use Rattle.std.proofs.Common.{ap, sym, subst, refl, codes, true, map, ◌≡◌, ◌∙◌}
use Rattle.std.specs.List.{All}
use Rattle.std.proofs.lemmas.Result.{IfOk-weaker}
use Rattle.clap.specs.Words.{App, Rule, FailsBy, rule_of, matches_of, fault_of, is_simple, is_simple_and_free}
use Rattle.clap.specs.Facts.{args_of}
use Rattle.clap.specs.Built.{IsParsedFrom}
use Rattle.clap.specs.declared.builder.value_parser.ValueParser.TheVariants as vp
use Rattle.command_words.specs.Words.{command, triples_parser, bytes_parser, HasReadableValues}
use Rattle.clap.proofs.OnLiterals.{clap_on_literals}
use Rattle.command_words.proofs.ValueLemmas.{Each, HasParser, IsOwn, each_at, no_groups_built, parsed_built, read_passes}
use Rattle.command_words.proofs.command.parsed.Goals as goal

simple : is_simple command ≡ true
unfolding clap_on_literals
simple = refl

free : is_simple_and_free command ≡ true
unfolding clap_on_literals
free = refl

sort_parser : Each (HasParser (codes "sort") vp.Bool) command.top.rules
sort_parser = (λ h. (refl, refl), (λ h. cc, (λ h. cc, tt)))

triples_parser_is : Each (HasParser (codes "max-triples") triples_parser) command.top.rules
triples_parser_is = (λ h. cc, (λ h. (refl, refl), (λ h. cc, tt)))

bytes_parser_is : Each (HasParser (codes "max-bytes") bytes_parser) command.top.rules
bytes_parser_is = (λ h. cc, (λ h. cc, (λ h. (refl, refl), tt)))

sort_own : IsOwn (codes "sort")
sort_own = (refl, refl, refl)

triples_own : IsOwn (codes "max-triples")
triples_own = (refl, refl, refl)

bytes_own : IsOwn (codes "max-bytes")
bytes_own = (refl, refl, refl)

pub returns-clause-matches : goal.returns-clause-matches
returns-clause-matches g c =
    let parse = c.try_get_matches_from in
    IfOk-weaker parse.result _ _ (λ m h. (h (ap is_simple (c.in_ok-command.ensures) ∙ simple)).0 ∙ ap (λ a. matches_of a (map g.S.AsStr.text c.args.words.now)) (c.in_ok-command.ensures)) parse.ensures.matches

pub returns-clause-values : goal.returns-clause-values
returns-clause-values g c =
    let parse = c.try_get_matches_from in
    let is = c.in_ok-command.ensures in
    let old = c.in_ok-command.command in
    let plain = ap (λ (a : App). a.top.is_plain) is in
    let rules_are : map rule_of (args_of old) ≡ command.top.rules = ap (λ (a : App). a.top.rules) is in
    let each : (P : Rule → Type 0) → Each P command.top.rules → All (λ a. P (rule_of a)) (args_of old) =
    λ P h. each_at P (args_of old) (subst (λ rs. Each P rs) (sym rules_are) h) in
    let simple_args : All (λ a. (rule_of a).is_simple ≡ true) (args_of old) = each (λ r. r.is_simple ≡ true) (refl, (refl, (refl, tt))) in
    IfOk-weaker parse.result (IsParsedFrom old) HasReadableValues (λ m p.
    let groups = no_groups_built old m p plain simple_args in
    let parsed = parsed_built old m p plain in (
      read_passes old m p (codes "sort") vp.Bool (each (HasParser (codes "sort") vp.Bool) sort_parser) sort_own groups parsed refl,
      read_passes old m p (codes "max-triples") triples_parser (each (HasParser (codes "max-triples") triples_parser) triples_parser_is) triples_own groups parsed refl,
      read_passes old m p (codes "max-bytes") bytes_parser (each (HasParser (codes "max-bytes") bytes_parser) bytes_parser_is) bytes_own groups parsed refl,
    )) parse.ensures.parsed

pub returns-clause-kinds : goal.returns-clause-kinds
returns-clause-kinds g c =
    let parse = c.try_get_matches_from in
    subst (λ a. FailsBy (fault_of a (map g.S.AsStr.text c.args.words.now)) parse.result) (c.in_ok-command.ensures) (parse.ensures.kinds (ap is_simple_and_free (c.in_ok-command.ensures) ∙ free))
