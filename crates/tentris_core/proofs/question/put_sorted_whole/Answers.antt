use Rattle.std.proofs.lemmas.Result.{err_from_is_err_and}
use Rattle.tentris_core.proofs.PassLemmas.{pass_cut, pass_whole}
use Rattle.tentris_core.proofs.question.put_sorted_whole.Goals as goal

pub returns-in_err-put_sorted-clause-text : goal.returns-in_err-put_sorted-clause-text
returns-in_err-put_sorted-clause-text g c = λ q G cut texts.
    let failed = err_from_is_err_and c.from_residual.result c.from_residual.ensures.1 in
    pass_cut _ c.requires.empty c.put_sorted.result c.from_residual.result _ _ c.in_err-put_sorted.was failed.1 (c.put_sorted.ensures.put q G cut texts)

pub returns-clause-text : goal.returns-clause-text
returns-clause-text g c = λ q G cut texts.
    pass_whole _ c.requires.empty c.put_sorted.result c.flush.result _ c.in_ok-put_sorted.was (c.put_sorted.ensures.put q G cut texts) c.flush.ensures.ok c.flush.ensures.err c.flush.ensures.grows c.flush.ensures.cause
