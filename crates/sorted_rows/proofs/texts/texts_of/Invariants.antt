use Rattle.std.proofs.Common.{◌≡◌, length}
use Rattle.listing_text.specs.Rows.{HasWidth}
use Rattle.listing_text.proofs.RowLemmas.{to_give}
use Rattle.sorted_rows.proofs.RowTexts.{HasTexts}
use Rattle.sorted_rows.proofs.texts.texts_of.Given as goal

abbrev pub invariant-rows : goal.invariant-rows
invariant-rows g l = record {
  columns : l.columns ≡ length l.listing.columns;
  wide : HasWidth l.listing;
  has : HasTexts l.fn.listing l.listing l.texts.items;
}

abbrev pub decreases-rows : goal.decreases-rows
decreases-rows g l = to_give l.listing
