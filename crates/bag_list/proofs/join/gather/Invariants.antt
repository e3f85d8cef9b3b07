use Rattle.bag_list.proofs.TrackLemmas.{AreGathered}
use Rattle.bag_list.proofs.join.gather.Given as goal

abbrev pub invariant-loop-i : goal.invariant-loop-i
invariant-loop-i g l = AreGathered g.O.Operand.depth_of g.O.Operand.tuples l.tracks l.depth l.label l.ops l.masks l.count l.i
