use Rattle.std.proofs.Common.{◌++◌, ap}
use Rattle.std.specs.Prelude.{codes}
use Rattle.std.proofs.lemmas.Result.{err_from_is_err_and}
use Rattle.tn_io.proofs.PutLemmas.{puts_same, puts_both, puts_first}
use Rattle.rdf_term.proofs.texts.put_iri.Goals as goal

pub returns-in_err-put_byte-clause-put : goal.returns-in_err-put_byte-clause-put
returns-in_err-put_byte-clause-put g c =
    let failed = err_from_is_err_and c.from_residual.result c.from_residual.ensures.1 in
    puts_first c.put_byte.result c.from_residual.result _ _ (codes "<") (c.args.iri.now ++ codes ">") c.in_err-put_byte.was failed.1 c.put_byte.ensures.puts

pub returns-in_err-put-clause-put : goal.returns-in_err-put-clause-put
returns-in_err-put-clause-put g c =
    let x = c.as_bytes.result.now in
    let failed = err_from_is_err_and c.from_residual-in_err-put.result c.from_residual-in_err-put.ensures.1 in
    puts_same _ _ (ap (λ z. (codes "<" ++ z) ++ codes ">") c.as_bytes.ensures.value)
    (puts_first c.put.result c.from_residual-in_err-put.result _ _ (codes "<" ++ x) (codes ">") c.in_err-put.was failed.1 (puts_both c.put_byte.result c.put.result _ (codes "<") x c.in_ok-put_byte.was c.put_byte.ensures.puts c.put.ensures.puts))

pub returns-clause-put : goal.returns-clause-put
returns-clause-put g c =
    let x = c.as_bytes.result.now in
    puts_same _ _ (ap (λ z. (codes "<" ++ z) ++ codes ">") c.as_bytes.ensures.value)
    (puts_both c.put.result c.put_byte-2.result _ (codes "<" ++ x) (codes ">") c.in_ok-put.was (puts_both c.put_byte.result c.put.result _ (codes "<") x c.in_ok-put_byte.was c.put_byte.ensures.puts c.put.ensures.puts) c.put_byte-2.ensures.puts)
