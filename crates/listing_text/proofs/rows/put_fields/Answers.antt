use Rattle.std.proofs.Common.{rules, arith, ◌≡◌, ◌∙◌, refl, ap, sym, take, length}
use Rattle.std.specs.Prelude.{map}
use Rattle.std.specs.Option.{option_map}
use Rattle.std.proofs.lemmas.List.{take_all}
use Rattle.std.proofs.lemmas.Result.{err_from_is_err_and}
use Rattle.std.specs.Io.KnownBytes.{append_known}
use Rattle.rdf_term.specs.Seen.{lent_term}
use Rattle.tn_io.specs.OutText.{all_put}
use Rattle.tn_io.proofs.KnownLemmas.{begins_self, begins_trans}
use Rattle.solution_model.specs.Texts.{tabbed, field_text}
use Rattle.answer_text.proofs.RowLemmas.{field_more, field_cut}
use Rattle.listing_text.proofs.RowLemmas.{append_none, field_at, fields_long}
use Rattle.listing_text.proofs.rows.put_fields.Goals as goal

pub loop-col-init : goal.loop-col-init
loop-col-init g c = record { same_sink = refl; put = λ row is. append_none _; grows = begins_self _; faults = omega arith }

pub loop-col-preserved : goal.loop-col-preserved
loop-col-preserved g c = record {
  same_sink = c.in_ok-field.ensures.same_sink ∙ c.loop-col.invariant.same_sink;
  put = λ row is. field_more _ _ _ (map field_text row) c.loop-col.col (field_text (option_map lent_term c.value.result)) (field_at row c.loop-col.col (option_map lent_term c.value.result) (c.value.ensures.value row is)) (c.loop-col.invariant.put row is) c.in_ok-field.ensures.put.put;
  grows = begins_trans _ _ _ c.loop-col.invariant.grows c.in_ok-field.ensures.put.grows;
  faults = omega (arith, c.in_ok-field.ensures.put.cause.later, c.loop-col.invariant.faults);
}

pub returns-in_err-field-clause-put : goal.returns-in_err-field-clause-put
returns-in_err-field-clause-put g c = λ row is wide.
    let failed = err_from_is_err_and c.from_residual.result c.from_residual.ensures.1 in
    record {
      put = rw failed.1 tt;
      cut = rw failed.1 (field_cut _ _ _ (map field_text row) c.loop-col.col (field_text (option_map lent_term c.value.result)) (field_at row c.loop-col.col (option_map lent_term c.value.result) (c.value.ensures.value row is)) (c.loop-col.invariant.put row is) c.in_err-field.ensures.put.cut);
      cause = search rules;
      grows = begins_trans _ _ _ c.loop-col.invariant.grows c.in_err-field.ensures.put.grows;
    }

pub returns-clause-put : goal.returns-clause-put
returns-clause-put g c = λ row is wide. record {
  put = c.loop-col.invariant.put row is ∙ ap (λ z. append_known (all_put g.K.Sink.written c.args.out.now) (tabbed z)) (take_all c.loop-col.col (map field_text row) (omega (arith, wide, fields_long row)));
  cut = tt;
  cause = record { later = c.loop-col.invariant.faults; failed = tt };
  grows = c.loop-col.invariant.grows;
}
