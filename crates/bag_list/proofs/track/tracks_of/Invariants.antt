use Rattle.std.proofs.Common.{◌≡◌, List, take}
use Rattle.bag_list.specs.declared.level.Level.{Level}
use Rattle.bag_list.specs.Tracks.{AreTracks, rests, rests_of}
use Rattle.bag_list.proofs.track.tracks_of.Given as goal

abbrev pub invariant-loop-i : goal.invariant-loop-i
invariant-loop-i g l = (rests g.O.Operand.tuples l.tracks.items ≡ rests_of g.O.Operand.tuples (take l.i l.starts)) × ((fs : List Level) → AreTracks g.O.Operand.depth_of g.O.Operand.tuples l.n 1 fs l.tracks.items)
