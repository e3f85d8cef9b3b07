use Rattle.std.proofs.Common.{ℕ, ◌+◌, List, sym, subst, Option, Bor}
use Rattle.query_text.specs.Reads.{ReadsEscape, IsEscapeRead}
use Rattle.query_text.proofs.EscapesRead.{named_escape, no_letter, no_uchar, no_number, no_character, uchar_escape, out_of_range, in_range}
use Rattle.query_text.proofs.escape.escape.Goals as goal

pub returns-in_err-letter : goal.returns-in_err-letter
returns-in_err-letter c =
    subst (λ (r : Option (ℕ × Bor (List ℕ))). ReadsEscape c.args.text.now r) (sym c.from_residual.ensures) (no_letter _ c.in_err-letter.ensures)

pub returns-in-Some : goal.returns-in-Some
returns-in-Some c = named_escape _ _ _ _ c.in_ok-letter.ensures.0 c.in_ok-letter.ensures.1 c.in_ok-letter.ensures.2 c.in-Some.ensures

pub returns-in_err-digit_count : goal.returns-in_err-digit_count
returns-in_err-digit_count c =
    subst (λ (r : Option (ℕ × Bor (List ℕ))). ReadsEscape c.args.text.now r) (sym c.from_residual-in_err-digit_count.ensures)
    (no_uchar _ _ _ c.in_ok-letter.ensures.0 c.in_default.ensures c.in_err-digit_count.ensures.count)

pub returns-in_err-number : goal.returns-in_err-number
returns-in_err-number c =
    subst (λ (r : Option (ℕ × Bor (List ℕ))). ReadsEscape c.args.text.now r) (sym c.from_residual-in_err-number.ensures)
    (no_number _ _ _ _ c.in_ok-letter.ensures.0 c.in_default.ensures c.in_ok-digit_count.ensures.count c.in_err-number.ensures)

pub returns-in_err-from_u32 : goal.returns-in_err-from_u32
returns-in_err-from_u32 c =
    subst (λ (r : Option (ℕ × Bor (List ℕ))). ReadsEscape c.args.text.now r) (sym c.from_residual-in_err-from_u32.ensures)
    (no_character _ _ _ _ _ c.in_ok-letter.ensures.0 c.in_default.ensures c.in_ok-digit_count.ensures.count c.in_ok-number.ensures.0 (out_of_range c.in_ok-number.number (c.in_ok-digit_count.field-0 + 1) c.in_err-from_u32.ensures.value))

pub returns : goal.returns
returns c =
    let good = in_range c.in_ok-number.number c.in_ok-from_u32.field-0 (c.in_ok-digit_count.field-0 + 1) c.in_ok-from_u32.ensures.value in
    subst (λ (n : ℕ). IsEscapeRead c.args.text.now n c.in_ok-number.behind.now) (sym good.0)
    (uchar_escape _ _ _ _ _ _ c.in_ok-letter.ensures.0 c.in_ok-letter.ensures.1 c.in_default.ensures c.in_ok-digit_count.ensures.count c.in_ok-number.ensures.0 c.in_ok-number.ensures.1 c.in_ok-number.ensures.2 c.in_ok-number.ensures.3 good.1)
