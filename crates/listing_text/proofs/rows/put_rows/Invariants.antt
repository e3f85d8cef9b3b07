use Rattle.std.proofs.Common.{◌≡◌, ◌≤◌, length}
use Rattle.tn_io.specs.Known.{Begins}
use Rattle.listing_text.specs.Rows.{HasWidth}
use Rattle.listing_text.proofs.RowLemmas.{HasPut, to_give}
use Rattle.listing_text.proofs.rows.put_rows.Given as goal

abbrev pub invariant-rows : goal.invariant-rows
invariant-rows g l = record {
  same_sink : l.out.sink.ghost_name ≡ l.fn.out.sink.ghost_name;
  columns : l.columns ≡ length l.listing.columns;
  wide : HasWidth l.listing;
  has : HasPut g.K.Sink.written l.fn.out l.out l.fn.listing l.listing l.count;
  grows : Begins (g.K.Sink.written l.fn.out.sink.now) (g.K.Sink.written l.out.sink.now);
  faults : g.K.Sink.faults l.fn.out.sink.now ≤ g.K.Sink.faults l.out.sink.now;
}

abbrev pub decreases-rows : goal.decreases-rows
decreases-rows g l = to_give l.listing
