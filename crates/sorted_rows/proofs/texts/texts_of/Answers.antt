use Rattle.std.proofs.Common.{◌∙◌, length, sym, ap, subst}
use Rattle.listing_text.proofs.RowLemmas.{fewer, wide_row, wide_behind}
use Rattle.sorted_rows.proofs.RowTexts.{HasTexts, one_text}
use Rattle.sorted_rows.proofs.texts.texts_of.Goals as goal

pub rows-smaller : goal.rows-smaller
rows-smaller g c = fewer _ _ c.in-Some.ensures.row

pub rows-preserved : goal.rows-preserved
rows-preserved g c =
    let on = c.in-Some.ensures.row in
    let wide = wide_row _ _ on.row c.rows.invariant.wide on on.present ∙ sym c.rows.invariant.columns in
    record {
      columns = c.rows.invariant.columns ∙ ap length (sym c.next.ensures.columns);
      wide = wide_behind _ _ c.rows.invariant.wide on c.next.ensures.columns;
      has = subst (HasTexts _ _) (sym c.in_ok-push.ensures.items) (one_text c.rows.invariant.has _ on _ (c.in_ok-text_of.ensures on.row on.present wide));
    }
