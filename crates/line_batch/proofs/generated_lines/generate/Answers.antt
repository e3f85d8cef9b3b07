use Rattle.script_model.specs.Commands as script
use Rattle.run_model.specs.Loads.{generated_sayings}
use Rattle.line_batch.proofs.generated_lines.generate.Goals as goal

pub returns : goal.returns
returns g c = λ sound. c.carry_out.ensures c.args.store.now script.Inserts (generated_sayings c.args.count c.args.salt) sound c.gathered.ensures.batch
