use Rattle.std.proofs.Common.{◌∙◌}
use Rattle.script_model.specs.Commands as script
use Rattle.line_batch.proofs.BatchLemmas.{inserted, lack_memory}
use Rattle.line_batch.proofs.batch.put_in.Goals as goal

pub returns-in-Ok : goal.returns-in-Ok
returns-in-Ok g c = λ s body sound h.
    inserted s body c.args.store.now c.args.staged c.insert-inserted.new.self c.in-Ok.change.changed c.in-Ok.change.now h c.in-Ok.ensures.graph c.in-Ok.ensures.changed c.in-Ok.ensures.now
    (record { settled = c.insert-inserted.ensures.settled; stands = c.stands.ensures.stands }) c.insert-inserted.ensures.max

pub returns-in-Err : goal.returns-in-Err
returns-in-Err g c = λ s body sound h. lack_memory _ s script.Inserts body sound c.insert-inserted.new.self (c.in-Err.ensures.before ∙ h.start)
