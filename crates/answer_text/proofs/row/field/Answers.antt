use Rattle.std.specs.Option.{option_map}
use Rattle.std.proofs.lemmas.Result.{err_from_is_err_and}
use Rattle.rdf_term.specs.Seen.{lent_term}
use Rattle.solution_model.specs.Texts.{field_text}
use Rattle.tn_io.proofs.PutLemmas.{puts_first}
use Rattle.answer_text.specs.Fields.{parting}
use Rattle.answer_text.proofs.row.field.Goals as goal

pub returns-in_err-put_parting-clause-put : goal.returns-in_err-put_parting-clause-put
returns-in_err-put_parting-clause-put g c =
    let failed = err_from_is_err_and c.from_residual.result c.from_residual.ensures.1 in
    puts_first c.put_parting.result c.from_residual.result _ _ (parting c.args.first) (field_text (option_map lent_term c.args.t)) c.in_err-put_parting.was failed.1 c.put_parting.ensures.put
