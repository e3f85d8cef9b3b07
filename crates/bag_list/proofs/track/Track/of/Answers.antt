use Rattle.std.proofs.Common.{sym, ◌∙◌}
use Rattle.bag_list.proofs.CountedLemmas.{n-parts}
use Rattle.bag_list.proofs.track.Track.of.Goals as goal

pub returns-clause-room : goal.returns-clause-room
returns-clause-room g c = n-parts _ ∙ sym c.in_ok-heights.heights.ok.0 ∙ c.in_ok-heights.ensures.len
