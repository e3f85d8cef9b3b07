use Rattle.script_model.specs.Commands as script
use Rattle.line_batch.proofs.BatchLemmas.{deleted, lack_memory}
use Rattle.line_batch.proofs.batch.take_out.Goals as goal

pub returns-in-Ok : goal.returns-in-Ok
returns-in-Ok g c = λ body sound h.
    deleted c.args.store.now body c.args.taken c.delete-deleted.new.self c.in-Ok.change.changed c.in-Ok.change.now h c.in-Ok.ensures.graph c.in-Ok.ensures.changed c.in-Ok.ensures.now
    (record { settled = c.delete-deleted.ensures.settled; stands = c.stands.ensures.stands }) c.delete-deleted.ensures.max

pub returns-in-Err : goal.returns-in-Err
returns-in-Err g c = λ body sound h. lack_memory _ c.args.store.now script.Deletes body sound c.delete-deleted.new.self c.in-Err.ensures.kept
