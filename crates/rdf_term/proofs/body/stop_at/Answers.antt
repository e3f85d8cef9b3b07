use Rattle.std.proofs.Common.{◌≡◌, ◌∙◌, sym, ap, arith, length, ℕ, List, [], ◌∷◌, refl}
use Rattle.rdf_term.specs.Body.{body_of}
use Rattle.rdf_term.proofs.Pieces.{at_end, stop_closed, stop_other, stop_bad_escape, stop_escape, finds_escapes}
use Rattle.rdf_term.proofs.body.stop_at.Goals as goal

empty : (bs : List ℕ) → length bs ≡ 0 → bs ≡ []
empty [] h = refl
empty (b ∷ bs) h = absurd (omega arith)

pub returns-in_default : goal.returns-in_default
returns-in_default c = ap (body_of c.args.form) (empty c.args.bytes.now c.in_default.ensures.cases) ∙ at_end c.args.form

pub returns-then-first-close : goal.returns-then-first-close
returns-then-first-close c =
    stop_closed c.args.form c.args.bytes.now c.in-Some.first.now c.in-Some.behind.now c.in-Some.ensures.cases.0 (c.if-first-close.true ∙ c.close.ensures)

pub returns-then-first-ne92 : goal.returns-then-first-ne92
returns-then-first-ne92 c =
    stop_other c.args.form c.args.bytes.now c.in-Some.first.now c.in-Some.behind.now c.in-Some.ensures.cases.0 c.requires (λ h. c.if-first-close.false (h ∙ sym c.close.ensures)) c.if-first-ne92.true

pub overflow_add-result : goal.overflow_add-result
overflow_add-result c = let found = (finds_escapes c.args.form).found c.in-Some.behind.now c.in-Some-escape.c c.in-Some-escape.size (sym c.escape.ensures ∙ c.in-Some-escape.is) in omega (arith, found.1, c.in-Some.ensures.cases.1)

pub returns-in-Some-escape : goal.returns-in-Some-escape
returns-in-Some-escape c =
    stop_escape c.args.form c.args.bytes.now c.in-Some.first.now c.in-Some.behind.now c.in-Some.ensures.cases.0 c.if-first-ne92.false c.in-Some-escape.c c.in-Some-escape.size (sym c.escape.ensures ∙ c.in-Some-escape.is)

pub returns-in-None : goal.returns-in-None
returns-in-None c =
    stop_bad_escape c.args.form c.args.bytes.now c.in-Some.first.now c.in-Some.behind.now c.in-Some.ensures.cases.0 c.if-first-ne92.false (sym c.escape.ensures ∙ c.in-None.is)
