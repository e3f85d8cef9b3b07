use Rattle.std.proofs.Common.{◌<◌, length}
use Rattle.worked_graphs.proofs.listings.told.Given as goal

abbrev pub invariant-loop-time : goal.invariant-loop-time
invariant-loop-time g l = 0 < length l.listing.columns
