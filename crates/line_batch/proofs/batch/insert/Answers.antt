use Rattle.std.proofs.Common.{◌∙◌}
use Rattle.line_batch.specs.declared.batch.Batch.TheVariants.{Inserts, Refused}
use Rattle.line_batch.specs.Batches.{lent_saying}
use Rattle.line_batch.proofs.BatchLemmas.{of_staged}
use Rattle.line_batch.proofs.batch.insert.Goals as goal

pub returns-in-None-clause-more : goal.returns-in-None-clause-more
returns-in-None-clause-more g c =
    of_staged c.args.number (lent_saying c.args.saying) c.args.store.now c.args.staged c.stage.new.store (Inserts c.stage.new.staged)
    (λ s body n h. c.in-None.ensures.line s body n h)

pub returns-in-Some-clause-more : goal.returns-in-Some-clause-more
returns-in-Some-clause-more g c =
    of_staged c.args.number (lent_saying c.args.saying) c.args.store.now c.args.staged c.abandon.new.self (Refused c.in-Some.cause)
    (λ s body n h. (c.abandon.ensures.before ∙ c.stage.ensures.before ∙ h.start, c.in-Some.ensures.line s body n h))
