use Rattle.std.proofs.Common.{◌∙◌, ◌<◌, length, ℕ, Option, sym, subst, arith}
use Rattle.std.specs.Str.{IsUtf8}
use Rattle.rdf_term.specs.Front.{GivesFirst}
use Rattle.rdf_term.proofs.FrontLemmas.{no_bytes, too_short, not_utf8, ascii_first, text_first, text_scalar, front_range}
use Rattle.rdf_term.proofs.label.first_char.Goals as goal

pub returns-in_err-first : goal.returns-in_err-first
returns-in_err-first c =
    subst (λ (r : Option (ℕ × ℕ)). GivesFirst c.args.bytes.now r) (sym c.from_residual.ensures) (no_bytes c.args.bytes.now (omega (arith, c.in_err-first.ensures.item.3)))

pub returns-then-first-lt128 : goal.returns-then-first-lt128
returns-then-first-lt128 c =
    let item = c.in_ok-first.ensures.item in
    ascii_first c.args.bytes.now c.in_ok-first.field-0.now (sym (item.3.1 0)) item.3.0 c.if-first-lt128.true

pub returns-in_err-get : goal.returns-in_err-get
returns-in_err-get c =
    let item = c.in_ok-first.ensures.item in
    let short : length c.args.bytes.now < c.width.result = omega (arith, c.in_err-get.ensures.lookup.0) in
    subst (λ (r : Option (ℕ × ℕ)). GivesFirst c.args.bytes.now r) (sym c.from_residual-in_err-get.ensures)
    (too_short c.args.bytes.now c.in_ok-first.field-0.now c.width.result (sym (item.3.1 0)) c.width.ensures short)

pub returns-in_default : goal.returns-in_default
returns-in_default c =
    let item = c.in_ok-first.ensures.item in
    let part = c.in_ok-get.ensures.lookup.0.2 ∙ front_range c.args.bytes.now c.width.result in
    not_utf8 c.args.bytes.now c.in_ok-first.field-0.now c.width.result (sym (item.3.1 0)) c.width.ensures (λ u. c.in_default.ensures.cases.0 (subst IsUtf8 (sym part) u))

pub returns : goal.returns
returns c =
    let part = c.in_ok-get.ensures.lookup.0.2 ∙ front_range c.args.bytes.now c.width.result in
    let same = c.in-Ok.ensures.cases.0 in
    let utf8 = subst IsUtf8 (sym same) c.in-Ok.ensures.cases.1 in
    let scalar = text_scalar c.in-Ok.text.now c.chars.result.rest.now c.in_ok-c.c utf8 c.chars.ensures.rest c.in_ok-c.ensures.steps.2 in
    text_first c.args.bytes.now c.in-Ok.text.now c.next.new.self.rest.now c.in_ok-c.c c.width.result c.len_utf8.result (same ∙ part) (sym c.chars.ensures.rest ∙ c.in_ok-c.ensures.steps.0) scalar c.len_utf8.ensures.len
