use Rattle.std.proofs.Common.{◌≡◌, ◌≤◌, take}
use Rattle.std.specs.Prelude.{◌++◌, codes, map}
use Rattle.std.specs.Io.KnownBytes.{append_known}
use Rattle.tn_io.specs.Known.{Begins}
use Rattle.tn_io.specs.OutText.{all_put}
use Rattle.query_plan.specs.Seen.{column_seen}
use Rattle.query_grammar.specs.Meaning.{Column}
use Rattle.solution_model.specs.Texts.{tabbed}
use Rattle.answer_text.proofs.row.put_names.Given as goal

abbrev pub invariant-loop-i : goal.invariant-loop-i
invariant-loop-i g l = record {
  same_sink : l.out.sink.ghost_name ≡ l.fn.out.sink.ghost_name;
  put : all_put g.K.Sink.written l.out ≡ append_known (all_put g.K.Sink.written l.fn.out) (tabbed (take l.i (map (λ (c : Column). codes "?" ++ c.name) (map column_seen l.columns))));
  grows : Begins (g.K.Sink.written l.fn.out.sink.now) (g.K.Sink.written l.out.sink.now);
  faults : g.K.Sink.faults l.fn.out.sink.now ≤ g.K.Sink.faults l.out.sink.now;
}
