use Rattle.script_model.specs.Commands as script
use Rattle.line_batch.specs.Batches.{IsReady, IsBatch}
use Rattle.line_batch.proofs.GenerateLemmas.{first}
use Rattle.line_batch.proofs.generated_lines.gathered.Given as goal

abbrev pub invariant-loop-k : goal.invariant-loop-k
invariant-loop-k g l = record {
  ready : IsReady l.store l.batch;
  batch : IsBatch l.fn.store script.Inserts (first l.count l.salt l.k) l.store l.batch;
}
