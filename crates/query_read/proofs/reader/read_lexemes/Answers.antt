use Rattle.std.proofs.lemmas.Result.{err_from_is_err_and}
use Rattle.query_read.proofs.reader.read_lexemes.Goals as goal

pub returns-in_err-all_sound-clause-query : goal.returns-in_err-all_sound-clause-query
returns-in_err-all_sound-clause-query c =
    let p = err_from_is_err_and c.from_residual.result c.from_residual.ensures.1 in rw (p.1, p.2) tt

pub returns-in_err-triples-clause-query : goal.returns-in_err-triples-clause-query
returns-in_err-triples-clause-query c =
    let p = err_from_is_err_and c.from_residual-in_err-triples.result c.from_residual-in_err-triples.ensures.1 in rw (p.1, p.2) tt
