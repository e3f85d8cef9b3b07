use Rattle.std.proofs.Common.{◌∙◌, sym, ap}
use Rattle.std.specs.Prelude.{not}
use Rattle.query_text.specs.Seen.{sign_seen}
use Rattle.query_read.proofs.TermsKnown.{text_plain, text_typed}
use Rattle.query_read.proofs.term.has_term.Goals as goal

pub returns-then-not-is : goal.returns-then-not-is
returns-then-not-is c =
    ap not c.if-not-is.true ∙ text_plain c.args.all.now c.args.i (sign_seen c.sign_at-in-Text.result) c.requires.sound (ap sign_seen (sym c.in-Text.is) ∙ c.sign_at.ensures) c.sign_at-in-Text.ensures
    (sym c.is.ensures ∙ c.if-not-is.true)

pub returns-else-not-is : goal.returns-else-not-is
returns-else-not-is c =
    c.has_iri-else-not-is.ensures ∙ text_typed c.args.all.now c.args.i (sign_seen c.sign_at-in-Text.result) c.requires.sound (ap sign_seen (sym c.in-Text.is) ∙ c.sign_at.ensures) c.sign_at-in-Text.ensures
    (sym c.is.ensures ∙ c.if-not-is.false)
