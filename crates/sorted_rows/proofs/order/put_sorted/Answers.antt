use Rattle.std.proofs.Common.{◌∙◌, arith}
use Rattle.std.proofs.lemmas.Result.{err_from_is_err_and}
use Rattle.sorted_rows.proofs.OrderTexts.{left_is, same_columns, same_rows, same_end, columns_cut, rows_cut, answer_put}
use Rattle.sorted_rows.proofs.order.put_sorted.Goals as goal

pub returns-in_err-header-clause-put : goal.returns-in_err-header-clause-put
returns-in_err-header-clause-put g c = λ q G u same.
    let failed = err_from_is_err_and c.from_residual.result c.from_residual.ensures.1 in
    columns_cut q G c.header.result c.from_residual.result _ _ c.in_err-header.was failed.1 (same_columns q G c.args.query.now c.args.cut u c.header.ensures.put)

pub returns-in_err-put_lines-clause-put : goal.returns-in_err-put_lines-clause-put
returns-in_err-put_lines-clause-put g c = λ q G u same.
    let failed = err_from_is_err_and c.from_residual-in_err-put_lines.result c.from_residual-in_err-put_lines.ensures.1 in
    let left = c.left_by-rows.ensures ∙ left_is q G c.args.query.now c.args.cut c.args.texts.now u same in
    rows_cut q G c.header.result c.put_lines.result c.from_residual-in_err-put_lines.result _ _ _ c.in_ok-header.was c.in_err-put_lines.was failed.1
    (same_columns q G c.args.query.now c.args.cut u c.header.ensures.put) (same_rows q G c.left_by-rows.result.now left c.put_lines.ensures.put)

pub returns-clause-put : goal.returns-clause-put
returns-clause-put g c = λ q G u same.
    let left = c.left_by-rows.ensures ∙ left_is q G c.args.query.now c.args.cut c.args.texts.now u same in
    answer_put q G c.header.result c.put_lines.result c.ok.result _ _ c.in_ok-header.was c.in_ok-put_lines.was
    (same_columns q G c.args.query.now c.args.cut u c.header.ensures.put) (same_rows q G c.left_by-rows.result.now left c.put_lines.ensures.put)
    (same_end q G c.left_by-rows.result.now left (omega arith) c.ok.ensures.put)
