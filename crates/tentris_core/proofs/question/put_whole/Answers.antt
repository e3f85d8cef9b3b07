use Rattle.std.proofs.lemmas.Result.{err_from_is_err_and}
use Rattle.tentris_core.proofs.PassLemmas.{pass_cut, pass_whole}
use Rattle.tentris_core.proofs.question.put_whole.Goals as goal

pub returns-in_err-put_listing-clause-text : goal.returns-in_err-put_listing-clause-text
returns-in_err-put_listing-clause-text g c =
    let failed = err_from_is_err_and c.from_residual.result c.from_residual.ensures.1 in
    let p = c.put_listing.ensures.put in
    record { rows = p.rows; given = p.given; passes = pass_cut _ c.requires.empty c.put_listing.result c.from_residual.result _ _ c.in_err-put_listing.was failed.1 p.puts }

pub returns-clause-text : goal.returns-clause-text
returns-clause-text g c =
    let p = c.put_listing.ensures.put in
    record { rows = p.rows; given = p.given; passes = pass_whole _ c.requires.empty c.put_listing.result c.flush.result _ c.in_ok-put_listing.was p.puts c.flush.ensures.ok c.flush.ensures.err c.flush.ensures.grows c.flush.ensures.cause }
