use Rattle.std.proofs.Common.{◌++◌, ap}
use Rattle.std.specs.Prelude.{codes}
use Rattle.std.proofs.lemmas.Result.{err_from_is_err_and}
use Rattle.tn_io.proofs.PutLemmas.{puts_same, puts_both, puts_first}
use Rattle.answer_text.proofs.pieces.put_line.Goals as goal

pub returns-in_err-put-clause-put : goal.returns-in_err-put-clause-put
returns-in_err-put-clause-put g c =
    let failed = err_from_is_err_and c.from_residual.result c.from_residual.ensures.1 in
    puts_same _ _ (ap (λ z. z ++ codes "\n") c.as_bytes.ensures.value)
    (puts_first c.put.result c.from_residual.result _ _ c.as_bytes.result.now (codes "\n") c.in_err-put.was failed.1 c.put.ensures.puts)

pub returns-clause-put : goal.returns-clause-put
returns-clause-put g c =
    puts_same _ _ (ap (λ z. z ++ codes "\n") c.as_bytes.ensures.value)
    (puts_both c.put.result c.put_byte.result _ c.as_bytes.result.now (codes "\n") c.in_ok-put.was c.put.ensures.puts c.put_byte.ensures.puts)
