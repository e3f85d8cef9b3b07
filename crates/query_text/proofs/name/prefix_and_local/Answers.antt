use Rattle.std.proofs.Common.{◌∙◌, ap, sym, take, drop, arith, Some, None}
use Rattle.std.proofs.lemmas.Str.Pattern.{find_char}
use Rattle.query_text.proofs.NameParts.{prefix_is, no_prefix, take_past, drop_past}
use Rattle.query_text.proofs.name.prefix_and_local.Goals as goal

pub returns-in-Some-clause-prefix : goal.returns-in-Some-clause-prefix
returns-in-Some-clause-prefix c =
    let found = find_char 58 c.args.name.now (Some c.in-Some.colon) c.in-Some.ensures.cases (omega arith) in
    c.split_at.ensures.front ∙ ap (λ n. take n c.args.name.now) (sym (prefix_is c.args.name.now c.in-Some.colon found.0 found.1 found.2))

pub returns-in-Some-clause-local : goal.returns-in-Some-clause-local
returns-in-Some-clause-local c =
    let found = find_char 58 c.args.name.now (Some c.in-Some.colon) c.in-Some.ensures.cases (omega arith) in
    c.split_at.ensures.back ∙ ap (λ n. drop n c.args.name.now) (sym (prefix_is c.args.name.now c.in-Some.colon found.0 found.1 found.2))

pub returns-in-None-clause-prefix : goal.returns-in-None-clause-prefix
returns-in-None-clause-prefix c =
    c.split_at-in-None.ensures.front ∙ take_past c.args.name.now _ (no_prefix c.args.name.now (find_char 58 c.args.name.now None c.in-None.ensures.cases (omega arith)))

pub returns-in-None-clause-local : goal.returns-in-None-clause-local
returns-in-None-clause-local c =
    c.split_at-in-None.ensures.back ∙ drop_past c.args.name.now _ (no_prefix c.args.name.now (find_char 58 c.args.name.now None c.in-None.ensures.cases (omega arith)))
