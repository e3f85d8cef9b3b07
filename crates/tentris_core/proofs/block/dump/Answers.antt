use Rattle.std.proofs.Common.{refl, ap}
use Rattle.script_model.specs.Commands as script
use Rattle.run_model.specs.Answers.{Dumped}
use Rattle.tentris_core.proofs.BlockLemmas.{answer_step, memory_step}
use Rattle.tentris_core.proofs.block.dump.Goals as goal

pub returns-in-Ok : goal.returns-in-Ok
returns-in-Ok g c = λ A sound. answer_step A c.args.store.now script.Dump (Dumped c.in-Ok.lines) sound refl (refl, ap Dumped c.in-Ok.ensures.value) refl

pub returns-in-Err : goal.returns-in-Err
returns-in-Err g c = λ A sound. memory_step A c.args.store.now script.Dump sound
