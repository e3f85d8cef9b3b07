use Rattle.rdf_term.proofs.Pieces.{run_is, bad_run}
use Rattle.rdf_term.proofs.body.run_at.Goals as goal

pub returns-in-Ok : goal.returns-in-Ok
returns-in-Ok c = run_is c.args.form c.args.bytes.now c.run_len-end.result c.in-Ok.run'.now c.run_len-end.ensures c.in-Ok.ensures.cases.0 c.in-Ok.ensures.cases.1

pub returns-in-Err : goal.returns-in-Err
returns-in-Err c = bad_run c.args.form c.args.bytes.now c.run_len-end.result c.run_len-end.ensures c.in-Err.ensures.cases.0
