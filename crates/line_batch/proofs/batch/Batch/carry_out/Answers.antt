use Rattle.std.proofs.Common.{List, subst}
use Rattle.line_batch.specs.Batches.{IsBatch}
use Rattle.line_batch.specs.declared.batch.Batch.TheVariants.{Refused}
use Rattle.script_model.specs.Commands as script
use Rattle.run_model.specs.Sayings.{Saying}
use Rattle.graph_store.specs.StoreState.{StoreState}
use Rattle.line_batch.specs.Sound.{IsBetweenCommands}
use Rattle.line_batch.specs.Batches.{ChangesStore}
use Rattle.line_batch.specs.Seen.{answer_of}
use Rattle.line_batch.specs.declared.answer.Answer.TheVariants as answer
use Rattle.line_batch.proofs.BatchLemmas.{refused_batch}
use Rattle.line_batch.proofs.batch.Batch.carry_out.Goals as goal

pub returns-in-Refused : goal.returns-in-Refused
returns-in-Refused g c = λ s change said sound h. by s change said sound (subst (IsBatch s change said c.args.store.now) c.in-Refused.is h) where
  by : (s : StoreState) (change : script.Change) (said : List Saying) → IsBetweenCommands g.M.Mix.mixed s → IsBatch s change said c.args.store.now (Refused c.in-Refused.cause) → ChangesStore g.M.Mix.mixed s change said c.args.store.now (answer_of (answer.Refused c.in-Refused.cause))
  by s script.Inserts said sound h = refused_batch _ s script.Inserts said sound c.args.store.now c.in-Refused.cause h.0 h.1
  by s script.Deletes said sound h = refused_batch _ s script.Deletes said sound c.args.store.now c.in-Refused.cause h.0 h.1
