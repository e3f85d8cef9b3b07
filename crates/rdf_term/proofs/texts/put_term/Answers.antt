use Rattle.std.proofs.Common.{◌≡◌, ◌∙◌, ◌++◌, [], ◌∷◌, List, ℕ, sym, ap, append_assoc}
use Rattle.std.proofs.lemmas.Result.{err_from_is_err_and}
use Rattle.rdf_model.specs.Texts.{kind_text}
use Rattle.tn_io.proofs.PutLemmas.{puts_same, puts_both, puts_first}
use Rattle.rdf_term.specs.Escapes.{form_text, term_text}
use Rattle.rdf_term.specs.Seen.{lent_kind, lent_term}
use Rattle.rdf_term.proofs.texts.put_term.Goals as goal

-- the text of a literal, with what follows each of its parts kept together
regroup : (q f k : List ℕ) → ((q ++ f) ++ q) ++ k ≡ q ++ (f ++ (q ++ k))
regroup q f k = append_assoc (q ++ f) q k ∙ append_assoc q f (q ++ k)

pub returns-in_err-put_byte-in-Literal-clause-put : goal.returns-in_err-put_byte-in-Literal-clause-put
returns-in_err-put_byte-in-Literal-clause-put g c =
    let whole = ap (λ t. term_text c.args.escapes (lent_term t)) c.in-Literal.is in
    let f = form_text c.args.escapes c.in-Literal.form.now in
    let k = kind_text (lent_kind c.in-Literal.kind) in
    let q : List ℕ = 34 ∷ [] in
    let failed = err_from_is_err_and c.from_residual.result c.from_residual.ensures.1 in
    puts_same _ _ (sym (whole ∙ regroup q f k)) (puts_first c.put_byte.result c.from_residual.result _ _ q (f ++ (q ++ k)) c.in_err-put_byte-in-Literal.was failed.1 c.put_byte.ensures.puts)

pub returns-in_err-put_form-in-Literal-clause-put : goal.returns-in_err-put_form-in-Literal-clause-put
returns-in_err-put_form-in-Literal-clause-put g c =
    let whole = ap (λ t. term_text c.args.escapes (lent_term t)) c.in-Literal.is in
    let f = form_text c.args.escapes c.in-Literal.form.now in
    let k = kind_text (lent_kind c.in-Literal.kind) in
    let q : List ℕ = 34 ∷ [] in
    let failed = err_from_is_err_and c.from_residual-in_err-put_form-in-Literal.result c.from_residual-in_err-put_form-in-Literal.ensures.1 in
    puts_same _ _ (sym (whole ∙ append_assoc (q ++ f) q k)) (puts_first c.put_form.result c.from_residual-in_err-put_form-in-Literal.result _ _ (q ++ f) (q ++ k) c.in_err-put_form-in-Literal.was failed.1
    (puts_both c.put_byte.result c.put_form.result _ q f c.in_ok-put_byte-in-Literal.was c.put_byte.ensures.puts c.put_form.ensures.put))

pub returns-in_err-put_byte-in-Literal-2-clause-put : goal.returns-in_err-put_byte-in-Literal-2-clause-put
returns-in_err-put_byte-in-Literal-2-clause-put g c =
    let whole = ap (λ t. term_text c.args.escapes (lent_term t)) c.in-Literal.is in
    let f = form_text c.args.escapes c.in-Literal.form.now in
    let k = kind_text (lent_kind c.in-Literal.kind) in
    let q : List ℕ = 34 ∷ [] in
    let failed = err_from_is_err_and c.from_residual-in_err-put_byte-in-Literal-2.result c.from_residual-in_err-put_byte-in-Literal-2.ensures.1 in
    puts_same _ _ (sym whole) (puts_first c.put_byte-in-Literal.result c.from_residual-in_err-put_byte-in-Literal-2.result _ _ ((q ++ f) ++ q) k c.in_err-put_byte-in-Literal-2.was failed.1
    (puts_both c.put_form.result c.put_byte-in-Literal.result _ (q ++ f) q c.in_ok-put_form-in-Literal.was (puts_both c.put_byte.result c.put_form.result _ q f c.in_ok-put_byte-in-Literal.was c.put_byte.ensures.puts c.put_form.ensures.put) c.put_byte-in-Literal.ensures.puts))

pub returns-in_ok-put_byte-in-Literal-2-clause-put : goal.returns-in_ok-put_byte-in-Literal-2-clause-put
returns-in_ok-put_byte-in-Literal-2-clause-put g c =
    let whole = ap (λ t. term_text c.args.escapes (lent_term t)) c.in-Literal.is in
    let f = form_text c.args.escapes c.in-Literal.form.now in
    let k = kind_text (lent_kind c.in-Literal.kind) in
    let q : List ℕ = 34 ∷ [] in
    puts_same _ _ (sym whole) (puts_both c.put_byte-in-Literal.result c.put_kind.result _ ((q ++ f) ++ q) k c.in_ok-put_byte-in-Literal-2.was
    (puts_both c.put_form.result c.put_byte-in-Literal.result _ (q ++ f) q c.in_ok-put_form-in-Literal.was (puts_both c.put_byte.result c.put_form.result _ q f c.in_ok-put_byte-in-Literal.was c.put_byte.ensures.puts c.put_form.ensures.put) c.put_byte-in-Literal.ensures.puts) c.put_kind.ensures.put)
