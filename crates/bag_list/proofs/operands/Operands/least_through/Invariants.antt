use Rattle.std.proofs.Common.{◌≡◌, ◌-◌, ◌^◌}
use Rattle.bag_list.specs.Joins.{IsJoin}
use Rattle.bag_list.specs.Levels.{from_of}
use Rattle.bag_list.specs.Operands.{AreReady}
use Rattle.bag_list.proofs.ThroughLemmas.{AreThrough}
use Rattle.bag_list.proofs.operands.Operands.least_through.Given as goal

abbrev pub invariant-loop-start : goal.invariant-loop-start
invariant-loop-start g l = record {
  through : AreThrough g.O.Operand.tuples l.fn.self.tracks.items l.self.tracks.items l.sought.depth l.sought.label l.other l.sought.from.0 (from_of l.start) l.best;
  joins : l.self.joins ≡ l.fn.self.joins;
  ready : AreReady g.O.Operand.depth_of g.O.Operand.tuples l.sought.depth l.self;
  join : IsJoin g.O.Operand.depth_of g.O.Operand.tuples l.self.tracks.items l.sought.depth l.other l.self.other;
}

abbrev pub decreases-loop-start : goal.decreases-loop-start
decreases-loop-start g l = 2 ^ 32 - from_of l.start
