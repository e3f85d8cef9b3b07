use Rattle.std.proofs.Common.{◌∙◌, List, ℕ, ap}
use Rattle.query_lex.specs.Kinds.{kind_of}
use Rattle.query_read.proofs.LexedRead.{lexed_goes_on, goes_further, lexed_ends, lexed_fails}
use Rattle.query_read.proofs.lexemes.lexemes.Goals as goal

pub loop-token-smaller : goal.loop-token-smaller
loop-token-smaller c =
    let n = rw c.in-Ok-Some.field-0-is at c.in-Ok-Some.ensures in
    goes_further c.args.text.now c.loop-token.lexer c.in-Ok-Some.token c.next.new.self c.loop-token.found.items c.loop-token.invariant n

pub loop-token-preserved : goal.loop-token-preserved
loop-token-preserved c =
    let n = rw c.in-Ok-Some.field-0-is at c.in-Ok-Some.ensures in
    lexed_goes_on c.args.text.now c.loop-token.lexer c.in-Ok-Some.token c.next.new.self c.loop-token.found.items _ c.new.result c.loop-token.invariant n
    (c.new.ensures ∙ ap (λ (t : List ℕ). record { kind = kind_of c.in-Ok-Some.token.kind; text = t }) c.range.ensures.value) c.in_ok-push-in-Ok-Some.ensures.items

pub returns-in-Ok-None : goal.returns-in-Ok-None
returns-in-Ok-None c =
    let n = rw c.in-Ok-None.field-0-is at c.in-Ok-None.ensures in
    lexed_ends c.args.text.now c.loop-token.lexer c.loop-token.found.items c.loop-token.invariant n.0

pub returns-in-Err : goal.returns-in-Err
returns-in-Err c = lexed_fails c.args.text.now c.loop-token.lexer c.loop-token.found.items c.loop-token.invariant c.in-Err.ensures.0
