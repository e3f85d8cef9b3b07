use Rattle.std.proofs.Common.{subst}
use Rattle.line_batch.specs.Batches.{HasOneMore}
use Rattle.line_batch.proofs.batch.Batch.with_line.Goals as goal

pub returns-clause-more : goal.returns-clause-more
returns-clause-more g c = subst (λ s. HasOneMore c.args.number s c.args.store.now c.args.self c.with_saying.new.store c.with_saying.result) c.said.ensures.said c.with_saying.ensures.more
