use Rattle.std.proofs.Common.{◌≡◌, arith, sym, true}
use Rattle.std.specs.Char.{is_ascii_digit}
use Rattle.std.specs.List.{list_all}
use Rattle.script_read.proofs.WordLemmas.{no_digits, not_parsed}
use Rattle.script_read.proofs.words.number.Goals as goal

pub returns-in_default : goal.returns-in_default
returns-in_default c =
    let digits : list_all is_ascii_digit c.args.word.now ≡ true = cc in
    let e : _ = c.in_default.ensures in
    sym (no_digits c.args.most c.args.word.now digits e)

pub returns-in_default-parse : goal.returns-in_default-parse
returns-in_default-parse c =
    let digits : list_all is_ascii_digit c.args.word.now ≡ true = cc in
    sym (not_parsed c.args.most c.args.word.now c.in-Some.digits.now (omega arith) digits c.in-Some.ensures c.in_default-parse.ensures.value.0)
