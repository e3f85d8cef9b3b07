use Rattle.tn_io.specs.Memory.{pure_left}
use Rattle.tentris_core.proofs.DryLemmas.{dry_call}
use Rattle.tentris_core.proofs.dry.run_unheard.Goals as goal

pub returns-clause-ends : goal.returns-clause-ends
returns-clause-ends g c = dry_call _ _ _ _ _ _ (pure_left c.run.new.source) c.args.files.now c.run.new.files c.run.ensures.files c.run.ensures.ends
