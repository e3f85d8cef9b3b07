use Rattle.std.proofs.Common.{sym, subst}
use Rattle.line_batch.specs.Batches.{lent_saying, HasOneMore}
use Rattle.line_batch.specs.declared.batch.Batch.TheVariants.{Refused}
use Rattle.line_batch.proofs.BatchLemmas.{of_no_batch}
use Rattle.line_batch.proofs.batch.Batch.with_saying.Goals as goal

pub returns-in-Refused-clause-more : goal.returns-in-Refused-clause-more
returns-in-Refused-clause-more g c =
    subst (λ b. HasOneMore c.args.number (lent_saying c.args.saying) c.args.store.now b c.args.store.now (Refused c.in-Refused.cause)) (sym c.in-Refused.is)
    (of_no_batch c.args.number (lent_saying c.args.saying) c.args.store.now c.in-Refused.cause)
