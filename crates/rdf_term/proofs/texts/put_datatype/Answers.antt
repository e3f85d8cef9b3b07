use Rattle.std.proofs.Common.{◌++◌}
use Rattle.std.specs.Prelude.{codes}
use Rattle.std.proofs.lemmas.Result.{err_from_is_err_and}
use Rattle.tn_io.proofs.PutLemmas.{puts_both, puts_first}
use Rattle.rdf_term.proofs.texts.put_datatype.Goals as goal

pub returns-in_err-put_behind-clause-put : goal.returns-in_err-put_behind-clause-put
returns-in_err-put_behind-clause-put g c =
    let failed = err_from_is_err_and c.from_residual.result c.from_residual.ensures.1 in
    puts_first c.put_behind.result c.from_residual.result _ _ (codes "^^<" ++ c.args.datatype.now) (codes ">") c.in_err-put_behind.was failed.1 c.put_behind.ensures.put

pub returns-clause-put : goal.returns-clause-put
returns-clause-put g c = puts_both c.put_behind.result c.put_byte.result _ (codes "^^<" ++ c.args.datatype.now) (codes ">") c.in_ok-put_behind.was c.put_behind.ensures.put c.put_byte.ensures.puts
