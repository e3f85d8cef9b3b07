use Rattle.std.proofs.Common.{arith, ◌∷◌, [], length-append, sym, subst}
use Rattle.line_batch.specs.Batches.{lent_line, IsBatch}
use Rattle.tentris_core.proofs.BlockLemmas.{sayings_push, sayings_length}
use Rattle.tentris_core.proofs.block.Block.with_line.Goals as goal

pub returns : goal.returns
returns g c = λ s change body h. record {
  count = omega (arith, h.count, length-append body (lent_line c.args.line ∷ []));
  batch = subst (λ z. IsBatch s change z c.with_line.new.store c.with_line.result) (sym (sayings_push body (lent_line c.args.line))) (c.with_line.ensures.more s change _ (omega (arith, h.count, sayings_length body)) h.batch);
}
