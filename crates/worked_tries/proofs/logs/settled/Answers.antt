use Rattle.change_log.specs.ReservedLaws.{led_reserved}
use Rattle.worked_tries.proofs.KeysAndPairs.{zero_mix}
use Rattle.worked_tries.proofs.logs.settled.Goals as goal

pub settle-requires-clause-places : goal.settle-requires-clause-places
settle-requires-clause-places g c =
    (led_reserved zero_mix c.ready_log.new.context c.change.new.context c.change.new.log.steps c.change.ensures.changed.led).0
