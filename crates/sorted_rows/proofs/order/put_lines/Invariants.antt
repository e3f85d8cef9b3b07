use Rattle.std.proofs.Common.{◌≡◌, ◌≤◌, take}
use Rattle.std.specs.Io.KnownBytes.{append_known}
use Rattle.std.specs.List.{flat_map}
use Rattle.tn_io.specs.Known.{Begins}
use Rattle.tn_io.specs.OutText.{all_put}
use Rattle.run_model.specs.Answers.{line_text}
use Rattle.sorted_rows.proofs.order.put_lines.Given as goal

abbrev pub invariant-loop-line : goal.invariant-loop-line
invariant-loop-line g l = record {
  same_sink : l.out.sink.ghost_name ≡ l.fn.out.sink.ghost_name;
  put : all_put g.K.Sink.written l.out ≡ append_known (all_put g.K.Sink.written l.fn.out) (flat_map line_text (take l.line-index l.lines));
  grows : Begins (g.K.Sink.written l.fn.out.sink.now) (g.K.Sink.written l.out.sink.now);
  faults : g.K.Sink.faults l.fn.out.sink.now ≤ g.K.Sink.faults l.out.sink.now;
}
