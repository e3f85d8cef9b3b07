use Rattle.std.proofs.lemmas.Result.{err_from_is_err_and}
use Rattle.std.specs.Prelude.{map, codes}
use Rattle.query_plan.specs.Seen.{column_seen}
use Rattle.solution_model.specs.Texts.{header_text}
use Rattle.tn_io.proofs.PutLemmas.{puts_both, puts_first}
use Rattle.answer_text.proofs.row.header.Goals as goal

pub returns-in_err-put_names-clause-put : goal.returns-in_err-put_names-clause-put
returns-in_err-put_names-clause-put g c =
    let failed = err_from_is_err_and c.from_residual.result c.from_residual.ensures.1 in
    puts_first c.put_names.result c.from_residual.result _ _ (header_text (map column_seen c.args.q.now.columns)) (codes "\n") c.in_err-put_names.was failed.1 c.put_names.ensures.put

pub returns-clause-put : goal.returns-clause-put
returns-clause-put g c = puts_both c.put_names.result c.end_row.result _ (header_text (map column_seen c.args.q.now.columns)) (codes "\n") c.in_ok-put_names.was c.put_names.ensures.put c.end_row.ensures.put
