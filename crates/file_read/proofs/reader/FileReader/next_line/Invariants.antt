use Rattle.std.proofs.Common.{◌≡◌, ◌≤◌, false}
use Rattle.file_read.specs.ReaderState.{to_go, to_read}
use Rattle.file_read.specs.ReaderCalls.{Takes}
use Rattle.file_read.proofs.reader.FileReader.next_line.Given as goal

abbrev pub invariant-reads : goal.invariant-reads
invariant-reads g l = record {
  takes : Takes (g.F.Files.files l.fn.files) l.name l.fn.self l.self;
  open_yet : l.self.ended ≡ false;
  fewer : to_go l.self ≤ to_go l.fn.self;
  same : g.F.Files.files l.files ≡ g.F.Files.files l.fn.files;
  counts : g.F.Files.faults l.files ≡ g.F.Files.faults l.fn.files;
  max : l.self.max ≡ l.fn.self.max;
}

abbrev pub decreases-reads : goal.decreases-reads
decreases-reads g l = to_read l.self
