use Rattle.std.proofs.Common.{◌≡◌}
use Rattle.graph_store.proofs.trips.Trips.listed.Given as goal

abbrev pub invariant-loop-trip : goal.invariant-loop-trip
invariant-loop-trip l = l.list.items ≡ l.yielded
