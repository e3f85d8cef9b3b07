use Rattle.std.proofs.Common.{◌≡◌, ◌∙◌, ℕ, List, ◌∷◌, sym, ap, subst, refl, Option}
use Rattle.ntriples_model.specs.Terminals.{label_at}
use Rattle.rdf_term.specs.Read.{Reads}
use Rattle.rdf_term.proofs.LabelLemmas.{no_label, empty_label, label_read, label_utf8}
use Rattle.rdf_term.proofs.QuotedLemmas.{grown}
use Rattle.rdf_term.proofs.label.read_label.Goals as goal

pub returns-in_err-behind : goal.returns-in_err-behind
returns-in_err-behind c =
    subst (λ (r : Option ℕ). Reads (label_at c.args.bytes.now) c.args.bytes.now c.args.to.now c.args.to.now r) (sym c.from_residual.ensures)
    (no_label c.args.bytes.now (λ rest is. c.in_err-behind.ensures (58 ∷ rest) is), refl)

-- two lists with one first byte
tails : (a : ℕ) (xs ys : List ℕ) → a ∷ xs ≡ a ∷ ys → xs ≡ ys
tails a xs ys h = cc

pub returns-in_err-name : goal.returns-in_err-name
returns-in_err-name c =
    subst (λ (r : Option ℕ). Reads (label_at c.args.bytes.now) c.args.bytes.now c.args.to.now c.args.to.now r) (sym c.from_residual-in_err-name.ensures)
    (no_label c.args.bytes.now (λ rest is. c.in_err-name.ensures rest (tails 95 c.in_ok-behind.field-0.now (58 ∷ rest) (sym c.in_ok-behind.ensures ∙ is))), refl)

pub returns-then-size-eq0 : goal.returns-then-size-eq0
returns-then-size-eq0 c =
    let is = c.in_ok-behind.ensures ∙ ap (λ (z : List ℕ). 95 ∷ z) c.in_ok-name.ensures in
    (empty_label _ _ c.label_len-size.result is c.if-size-eq0.true c.label_len-size.ensures.label, refl)

pub returns-in_default : goal.returns-in_default
returns-in_default c = absurd (c.in_default.ensures.cases.0 (label_utf8 c.in_ok-name.name.now c.label_len-size.result c.label_len-size.ensures.label))

pub returns : goal.returns
returns c =
    let is = c.in_ok-behind.ensures ∙ ap (λ (z : List ℕ). 95 ∷ z) c.in_ok-name.ensures in
    label_read _ _ c.in-Ok.label.now c.label_len-size.result _ _ is c.if-size-eq0.false c.label_len-size.ensures.within c.label_len-size.ensures.label c.in-Ok.ensures.cases.0
    (grown _ _ _ _ c.add.ensures c.join.ensures)
