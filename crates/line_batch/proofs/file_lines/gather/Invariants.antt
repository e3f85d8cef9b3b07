use Rattle.std.proofs.Common.{◌≡◌, ◌≤◌, ◌+◌}
use Rattle.script_model.specs.Commands as script
use Rattle.file_read.specs.ReaderState.{to_go}
use Rattle.line_batch.specs.Batches.{IsReady, IsNone, IsGoing}
use Rattle.line_batch.proofs.LoadLemmas.{HasGathered}
use Rattle.line_batch.proofs.file_lines.gather.Given as goal

abbrev pub invariant-lines : goal.invariant-lines
invariant-lines g l = record {
  ready : IsReady l.store l.batch;
  gathered : HasGathered (g.F.Files.files l.fn.files) l.scope l.name l.reader l.fn.store l.fn.batch l.number l.store l.batch;
  going : (change : script.Change) → IsNone l.fn.store change l.fn.batch → IsGoing l.batch;
  few : l.number + to_go l.reader ≤ l.fn.reader.max + 1;
  same : g.F.Files.files l.files ≡ g.F.Files.files l.fn.files;
  counts : g.F.Files.faults l.files ≡ g.F.Files.faults l.fn.files;
  max : l.reader.max ≡ l.fn.reader.max;
}

abbrev pub decreases-lines : goal.decreases-lines
decreases-lines g l = to_go l.reader
