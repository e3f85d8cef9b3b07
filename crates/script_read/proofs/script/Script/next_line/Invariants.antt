use Rattle.std.proofs.Common.{◌≡◌, ◌≤◌, false}
use Rattle.script_read.specs.ScriptState.{to_go, to_read}
use Rattle.script_read.specs.ScriptCalls.{Takes}
use Rattle.script_read.proofs.script.Script.next_line.Given as goal

abbrev pub invariant-reads : goal.invariant-reads
invariant-reads g l = record {
  takes : Takes (g.S.Source.left l.fn.source) (g.S.Source.left l.source) l.fn.self l.self;
  open_yet : l.self.ended ≡ false;
  fewer : to_go l.self ≤ to_go l.fn.self;
  later : g.S.Source.faults l.fn.source ≤ g.S.Source.faults l.source;
}

abbrev pub decreases-reads : goal.decreases-reads
decreases-reads g l = to_read l.self
