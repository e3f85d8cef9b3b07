use Rattle.std.proofs.Common.{◌∙◌, ◌<◌, Some, ap, arith, length, sym}
use Rattle.script_read.specs.Forms.{some_where}
use Rattle.script_read.proofs.WordLemmas.{utf8_name, no_name}
use Rattle.script_read.proofs.words.name.Goals as goal

pub returns-in-Ok : goal.returns-in-Ok
returns-in-Ok c =
    let some : 0 < length c.args.bytes.now = grind arith in
    ap Some c.in-Ok.ensures.cases.0 ∙ sym (ap (λ z. some_where z c.args.bytes.now) (utf8_name c.args.bytes.now some c.in-Ok.ensures.cases.1))

pub returns-in-Err : goal.returns-in-Err
returns-in-Err c = sym (ap (λ z. some_where z c.args.bytes.now) (no_name c.args.bytes.now c.in-Err.ensures.cases.0))
