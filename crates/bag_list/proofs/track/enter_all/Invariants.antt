use Rattle.bag_list.proofs.TrackLemmas.{AreEntered}
use Rattle.bag_list.proofs.track.enter_all.Given as goal

abbrev pub invariant-loop-i : goal.invariant-loop-i
invariant-loop-i g l = AreEntered g.O.Operand.depth_of g.O.Operand.tuples l.depth l.label l.key.0 l.fn.tracks l.tracks l.i
