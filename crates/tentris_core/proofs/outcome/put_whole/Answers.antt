use Rattle.std.proofs.lemmas.Result.{err_from_is_err_and}
use Rattle.tentris_core.proofs.PassLemmas.{pass_cut, pass_whole}
use Rattle.tentris_core.proofs.outcome.put_whole.Goals as goal

pub returns-in_err-put-clause-text : goal.returns-in_err-put-clause-text
returns-in_err-put-clause-text g c =
    let failed = err_from_is_err_and c.from_residual.result c.from_residual.ensures.1 in
    pass_cut _ c.requires c.put.result c.from_residual.result _ _ c.in_err-put.was failed.1 c.put.ensures.put

pub returns-clause-text : goal.returns-clause-text
returns-clause-text g c = pass_whole _ c.requires c.put.result c.flush.result _ c.in_ok-put.was c.put.ensures.put c.flush.ensures.ok c.flush.ensures.err c.flush.ensures.grows c.flush.ensures.cause
