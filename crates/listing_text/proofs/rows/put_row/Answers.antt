use Rattle.std.proofs.lemmas.Result.{err_from_is_err_and}
use Rattle.std.specs.Prelude.{codes}
use Rattle.solution_model.specs.Texts.{row_text}
use Rattle.tn_io.proofs.PutLemmas.{puts_both, puts_first}
use Rattle.listing_text.proofs.rows.put_row.Goals as goal

pub returns-in_err-put_fields-clause-put : goal.returns-in_err-put_fields-clause-put
returns-in_err-put_fields-clause-put g c = λ row is wide.
    let failed = err_from_is_err_and c.from_residual.result c.from_residual.ensures.1 in
    puts_first c.put_fields.result c.from_residual.result _ _ (row_text row) (codes "\n") c.in_err-put_fields.was failed.1 (c.put_fields.ensures.put row is wide)

pub returns-clause-put : goal.returns-clause-put
returns-clause-put g c = λ row is wide. puts_both c.put_fields.result c.end_row.result _ (row_text row) (codes "\n") c.in_ok-put_fields.was (c.put_fields.ensures.put row is wide) c.end_row.ensures.put
