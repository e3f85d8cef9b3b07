use Rattle.std.proofs.Common.{ℕ, ◌<◌, get_or}
use Rattle.bag_list.specs.declared.track.Track.{Track}
use Rattle.bag_list.specs.Tracks.{HasDoubledIn}
use Rattle.bag_list.proofs.track.lacks_key.Given as goal

abbrev pub invariant-loop-i : goal.invariant-loop-i
invariant-loop-i g l = (k : ℕ) (t : Track _) → k < l.i → HasDoubledIn g.O.Operand.tuples (get_or l.tracks k t)
