use Rattle.std.proofs.lemmas.Result.{err_from_is_err_and}
use Rattle.query_plan.specs.Seen.{query_seen}
use Rattle.listing_text.proofs.AnswerLemmas.{columns_cut, rows_cut, answer_put}
use Rattle.listing_text.proofs.rows.put_listing.Goals as goal

pub returns-in_err-header-clause-put : goal.returns-in_err-header-clause-put
returns-in_err-header-clause-put g c =
    let failed = err_from_is_err_and c.from_residual.result c.from_residual.ensures.1 in
    columns_cut (query_seen c.args.query.now).columns _ c.header.result c.from_residual.result _ _ c.in_err-header.was failed.1 c.header.ensures.put

pub returns-in_err-rows-clause-put : goal.returns-in_err-rows-clause-put
returns-in_err-rows-clause-put g c =
    let failed = err_from_is_err_and c.from_residual-in_err-rows.result c.from_residual-in_err-rows.ensures.1 in
    rows_cut (query_seen c.args.query.now).columns _ c.header.result _ c.put_rows.result c.from_residual-in_err-rows.result _ _ c.in_ok-header.was c.in_err-rows.was failed.1 c.header.ensures.put c.put_rows.ensures.put

pub returns-clause-put : goal.returns-clause-put
returns-clause-put g c = answer_put (query_seen c.args.query.now).columns _ c.header.result _ c.put_rows.result _ c.ok.result c.in_ok-header.was c.in_ok-rows.was c.header.ensures.put c.put_rows.ensures.put c.ok.ensures.put
