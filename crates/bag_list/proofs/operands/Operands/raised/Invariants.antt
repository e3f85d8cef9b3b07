use Rattle.std.proofs.Common.{◌≡◌}
use Rattle.bag_list.specs.Operands.{AreReady}
use Rattle.bag_list.proofs.ThroughLemmas.{IsRaised}
use Rattle.bag_list.proofs.operands.Operands.raised.Given as goal

abbrev pub invariant-loop-i : goal.invariant-loop-i
invariant-loop-i g l = record {
  raised : IsRaised g.O.Operand.tuples l.levels l.fn.self.tracks.items l.self.tracks.items l.depth l.fn.key.0 l.next.0;
  joins : l.self.joins ≡ l.fn.self.joins;
  ready : AreReady g.O.Operand.depth_of g.O.Operand.tuples l.depth l.self;
}
