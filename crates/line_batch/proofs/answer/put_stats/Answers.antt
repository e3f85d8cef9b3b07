use Rattle.std.proofs.lemmas.Result.{err_from_is_err_and}
use Rattle.run_model.specs.Answers.{figures_text, reply_text, Stats}
use Rattle.line_batch.specs.Seen.{figures_seen}
use Rattle.tn_io.proofs.PutLemmas.{puts_both, puts_first}
use Rattle.line_batch.proofs.answer.put_stats.Goals as goal

pub returns-in_err-put_figures-clause-put : goal.returns-in_err-put_figures-clause-put
returns-in_err-put_figures-clause-put g c =
    let failed = err_from_is_err_and c.from_residual.result c.from_residual.ensures.1 in
    puts_first c.put_figures.result c.from_residual.result _ _ (figures_text (figures_seen c.args.stats)) (reply_text Stats) c.in_err-put_figures.was failed.1 c.put_figures.ensures.put

pub returns-clause-put : goal.returns-clause-put
returns-clause-put g c = puts_both c.put_figures.result c.ok.result _ (figures_text (figures_seen c.args.stats)) (reply_text Stats) c.in_ok-put_figures.was c.put_figures.ensures.put c.ok.ensures.put
