use Rattle.std.proofs.Common.{◌∙◌, ℕ, sym, subst}
use Rattle.memchr.specs.Find.{IsFirstByte, is_byte2}
use Rattle.rdf_term.proofs.Pieces.{run_to_end}
use Rattle.rdf_term.proofs.body.long_run_len.Goals as goal

pub returns-then-all_fit : goal.returns-then-all_fit
returns-then-all_fit c =
    run_to_end c.args.form c.args.bytes.now c.memchr2.result c.unwrap_or-end.result (subst (λ (x : ℕ). IsFirstByte (is_byte2 x 92) c.args.bytes.now c.memchr2.result) c.close.ensures c.memchr2.ensures) c.unwrap_or-end.ensures
    (sym c.all_fit.ensures ∙ c.if-all_fit.true)
