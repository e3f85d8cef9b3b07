use Rattle.std.proofs.Common.{◌≡◌, ◌≤◌, []}
use Rattle.script_read.specs.ScriptState.{to_go}
use Rattle.tentris_core.specs.Carrying.{around}
use Rattle.tentris_core.specs.Traffic.{traffic}
use Rattle.tentris_core.proofs.RunLemmas.{HasRun}
use Rattle.tentris_core.proofs.running.carry_out.Given as goal

abbrev pub invariant-lines : goal.invariant-lines
invariant-lines g l = record {
  same_sink : l.out.sink.ghost_name ≡ l.fn.out.sink.ghost_name;
  empty : l.out.buffer ≡ [];
  ran : HasRun (around g.M.Mix.mixed l.fn.tools.sorted l.fn.tools.reader.max (g.F.Files.files l.fn.files)) l.fn.store l.store
      (traffic (g.S.Source.left l.fn.source) (g.K.Sink.written l.fn.out.sink.now) (g.Z.Watch.shown l.fn.watch) (g.F.Files.faults l.fn.files))
      (traffic (g.S.Source.left l.source) (g.K.Sink.written l.out.sink.now) (g.Z.Watch.shown l.watch) (g.F.Files.faults l.files)) l.script l.place l.refused;
  sorted : l.tools.sorted ≡ l.fn.tools.sorted;
  most : l.tools.reader.max ≡ l.fn.tools.reader.max;
  files : g.F.Files.files l.files ≡ g.F.Files.files l.fn.files;
  read_faults : g.S.Source.faults l.fn.source ≤ g.S.Source.faults l.source;
  write_faults : g.K.Sink.faults l.fn.out.sink.now ≤ g.K.Sink.faults l.out.sink.now;
}

abbrev pub decreases-lines : goal.decreases-lines
decreases-lines g l = to_go l.script
