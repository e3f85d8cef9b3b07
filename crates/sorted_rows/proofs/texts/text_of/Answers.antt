use Rattle.std.proofs.Common.{◌∙◌, ◌++◌, ◌==◌, sym, ap}
use Rattle.std.specs.Prelude.{map}
use Rattle.std.specs.Option.{option_map}
use Rattle.rdf_term.specs.Seen.{lent_term}
use Rattle.solution_model.specs.Texts.{field_text}
use Rattle.answer_text.specs.Fields.{parting}
use Rattle.answer_text.proofs.RowLemmas.{tabbed_more}
use Rattle.listing_text.proofs.RowLemmas.{field_at}
use Rattle.sorted_rows.proofs.texts.text_of.Goals as goal

pub loop-col-preserved : goal.loop-col-preserved
loop-col-preserved c = λ row is.
    let value = option_map lent_term c.value.result in
    c.in_ok-add_field.ensures ∙ ap (λ z. z ++ (parting (c.loop-col.col == 0) ++ field_text value)) (c.loop-col.invariant row is)
    ∙ sym (tabbed_more (map field_text row) c.loop-col.col (field_text value) (field_at row c.loop-col.col value (c.value.ensures.value row is)))
