use Rattle.query_text.proofs.CharactersRead.{chars_nothing}
use Rattle.query_text.proofs.EscapesRead.{plain_meant, meant_escape, plain_test}
use Rattle.query_text.proofs.meaning.first_meant.Goals as goal

pub returns-in_err-c : goal.returns-in_err-c
returns-in_err-c c = absurd (chars_nothing c.args.text.now c.utf8.text c.requires c.in_err-c.ensures)

pub returns-then-c-eq92 : goal.returns-then-c-eq92
returns-then-c-eq92 c = meant_escape _ _ _ _ c.in_ok-c.ensures.0 c.in_ok-c.ensures.1 c.if-c-eq92.true c.escape.ensures

pub returns : goal.returns
returns c = plain_meant _ _ _ c.in_ok-c.ensures.0 c.in_ok-c.ensures.1 c.in_ok-c.ensures.2 (plain_test _ c.if-c-eq92.false)
