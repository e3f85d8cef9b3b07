use Rattle.std.proofs.Common.{◌+◌, arith, subst}
use Rattle.script_model.specs.Commands as script
use Rattle.run_model.specs.Loads.{saying_of}
use Rattle.rdf_term.specs.Seen.{lent_triple}
use Rattle.line_batch.specs.Batches.{IsBatch, HasOneMore}
use Rattle.line_batch.proofs.GenerateLemmas.{first_is_all, proper_generated, first_step, first_refused}
use Rattle.line_batch.proofs.generated_lines.gathered.Goals as goal

pub with_triple-requires-clause-proper : goal.with_triple-requires-clause-proper
with_triple-requires-clause-proper g c = proper_generated c.args.count c.args.salt c.loop-k.k _ (omega arith) c.generated_triple-triple.ensures c.requires.most

pub loop-k-preserved : goal.loop-k-preserved
loop-k-preserved g c = record {
  ready = c.with_triple.ensures.ready;
  batch = first_step c.args.count c.args.salt c.loop-k.k _ (omega arith) c.generated_triple-triple.ensures _ _ _ _ _ c.loop-k.invariant.batch c.with_triple.ensures.more;
}

pub returns-in-Refused-clause-batch : goal.returns-in-Refused-clause-batch
returns-in-Refused-clause-batch g c =
    first_refused c.args.count c.args.salt c.loop-k.k _ (omega arith) c.generated_triple-triple.ensures _ _ _ _ c.in-Refused.cause c.loop-k.invariant.batch
    (subst (λ b. HasOneMore (c.loop-k.k + 1) (saying_of (lent_triple c.generated_triple-triple.result)) c.loop-k.store c.loop-k.batch c.with_triple.new.store b) c.in-Refused.is c.with_triple.ensures.more)

pub returns-clause-batch : goal.returns-clause-batch
returns-clause-batch g c = subst (λ z. IsBatch c.args.store.now script.Inserts z c.loop-k.store c.loop-k.batch) (first_is_all c.args.count c.args.salt c.loop-k.k (omega arith)) c.loop-k.invariant.batch
