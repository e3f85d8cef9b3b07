use Rattle.std.proofs.Common.{refl}
use Rattle.line_batch.specs.declared.batch.Batch.TheVariants.{Deletes, Refused}
use Rattle.line_batch.specs.Batches.{lent_saying}
use Rattle.line_batch.proofs.BatchLemmas.{of_marked}
use Rattle.line_batch.proofs.batch.delete.Goals as goal

pub returns-in-None-clause-more : goal.returns-in-None-clause-more
returns-in-None-clause-more g c =
    of_marked c.args.number (lent_saying c.args.saying) c.args.store.now c.args.taken (Deletes c.mark.new.taken) (λ body n h. (refl, c.in-None.ensures.line body n h))

pub returns-in-Some-clause-more : goal.returns-in-Some-clause-more
returns-in-Some-clause-more g c =
    of_marked c.args.number (lent_saying c.args.saying) c.args.store.now c.args.taken (Refused c.in-Some.cause) (λ body n h. (refl, c.in-Some.ensures.line body n h))
