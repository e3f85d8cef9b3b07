use Rattle.key_join.specs.ListLaws.{set_of-free}
use Rattle.key_join.proofs.list.ListOp.of.Goals as goal

pub returns-clause-tuples : goal.returns-clause-tuples
returns-clause-tuples c = set_of-free c.args.list.now
