use Rattle.std.proofs.Common.{◌∙◌, sym, ap}
use Rattle.std.specs.List.{list_all}
use Rattle.tn_io.proofs.PutLemmas.{puts_same}
use Rattle.rdf_term.specs.Escapes.{stays}
use Rattle.rdf_term.proofs.EscapedLemmas.{plain_form}
use Rattle.rdf_term.proofs.texts.put_form.Goals as goal

pub returns-then-all_stay-clause-put : goal.returns-then-all_stay-clause-put
returns-then-all_stay-clause-put g c =
    let fit = ap (list_all (stays c.args.escapes)) (sym c.as_bytes.ensures.value) ∙ sym c.all_stay.ensures ∙ c.if-all_stay.true in
    puts_same _ _ (c.as_bytes-then-all_stay.ensures.value ∙ sym (plain_form c.args.escapes c.args.form.now fit)) c.put.ensures.puts
