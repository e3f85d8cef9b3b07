use Rattle.std.proofs.Common.{◌≡◌, ◌≤◌, take}
use Rattle.std.specs.Prelude.{Some, map}
use Rattle.std.specs.Io.KnownBytes.{append_known}
use Rattle.tn_io.specs.Known.{Begins}
use Rattle.tn_io.specs.OutText.{all_put}
use Rattle.solution_model.specs.Rows.{Row}
use Rattle.solution_model.specs.Texts.{tabbed, field_text}
use Rattle.listing_text.proofs.rows.put_fields.Given as goal

abbrev pub invariant-loop-col : goal.invariant-loop-col
invariant-loop-col g l = record {
  same_sink : l.out.sink.ghost_name ≡ l.fn.out.sink.ghost_name;
  put : (row : Row) → l.listing.present ≡ Some row → all_put g.K.Sink.written l.out ≡ append_known (all_put g.K.Sink.written l.fn.out) (tabbed (take l.col (map field_text row)));
  grows : Begins (g.K.Sink.written l.fn.out.sink.now) (g.K.Sink.written l.out.sink.now);
  faults : g.K.Sink.faults l.fn.out.sink.now ≤ g.K.Sink.faults l.out.sink.now;
}
