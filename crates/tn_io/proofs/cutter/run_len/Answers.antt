use Rattle.tn_io.proofs.LineLemmas.{run_found}
use Rattle.tn_io.proofs.cutter.run_len.Goals as goal

pub returns-clause-no_end : goal.returns-clause-no_end
returns-clause-no_end c = run_found c.args.piece.now c.memchr2.result c.unwrap_or.result c.memchr2.ensures c.unwrap_or.ensures
