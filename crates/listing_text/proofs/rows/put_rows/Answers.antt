use Rattle.std.proofs.Common.{rules, arith, ◌≡◌, ◌∙◌, refl, ap, sym, length}
use Rattle.std.proofs.lemmas.Result.{err_from_is_err_and}
use Rattle.tn_io.proofs.KnownLemmas.{begins_self, begins_trans}
use Rattle.listing_text.proofs.RowLemmas.{none_put, one_put, all_rows_put, row_cut, fewer, wide_row, wide_behind}
use Rattle.listing_text.proofs.rows.put_rows.Goals as goal

pub rows-init : goal.rows-init
rows-init g c = record { same_sink = refl; columns = c.requires.columns; wide = c.requires.wide; has = none_put _; grows = begins_self _; faults = omega arith }

pub rows-preserved : goal.rows-preserved
rows-preserved g c =
    let on = c.in-Some.ensures.row in
    let wide = wide_row _ _ on.row c.rows.invariant.wide on on.present ∙ sym c.rows.invariant.columns in
    let puts = c.in_ok-put_row.ensures.put on.row on.present wide in
    record {
      same_sink = c.in_ok-put_row.ensures.same_sink ∙ c.rows.invariant.same_sink;
      columns = c.rows.invariant.columns ∙ ap length (sym c.next.ensures.columns);
      wide = wide_behind _ _ c.rows.invariant.wide on c.next.ensures.columns;
      has = one_put c.rows.invariant.has _ _ _ on puts.put (search rules);
      grows = begins_trans _ _ _ c.rows.invariant.grows puts.grows;
      faults = omega (arith, puts.cause.later, c.rows.invariant.faults);
    }

pub rows-smaller : goal.rows-smaller
rows-smaller g c = fewer _ _ c.in-Some.ensures.row

pub returns-in_default-clause-put : goal.returns-in_default-clause-put
returns-in_default-clause-put g c = all_rows_put c.rows.invariant.has g.K.Sink.faults _ refl (c.in_default.ensures.none.0 refl) (record { later = c.rows.invariant.faults; failed = tt }) c.rows.invariant.grows

pub returns-in_err-put_row-clause-put : goal.returns-in_err-put_row-clause-put
returns-in_err-put_row-clause-put g c =
    let failed = err_from_is_err_and c.from_residual.result c.from_residual.ensures.1 in
    let on = c.in-Some.ensures.row in
    let wide = wide_row _ _ on.row c.rows.invariant.wide on on.present ∙ sym c.rows.invariant.columns in
    let puts = c.in_err-put_row.ensures.put on.row on.present wide in
    row_cut c.rows.invariant.has g.K.Sink.faults _ _ _ _ failed.1 on puts.cut (search rules) (begins_trans _ _ _ c.rows.invariant.grows puts.grows)
