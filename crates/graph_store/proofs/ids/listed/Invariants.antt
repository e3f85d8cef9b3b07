use Rattle.std.proofs.Common.{◌≡◌, take}
use Rattle.graph_store.specs.Staging.{ids_of_all}
use Rattle.graph_store.proofs.ids.listed.Given as goal

abbrev pub invariant-loop-trip : goal.invariant-loop-trip
invariant-loop-trip l = l.ids.items ≡ ids_of_all (take l.trip-index l.batch)
