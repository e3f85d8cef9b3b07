use Rattle.script_read.proofs.BlankLemmas.{begins_at, blank_alone}
use Rattle.script_read.proofs.blanks.blanks_before.Goals as goal

pub returns-in-Some-clause-rest : goal.returns-in-Some-clause-rest
returns-in-Some-clause-rest c = begins_at c.args.line.now c.in-Some.place c.in-Some.ensures.0 c.in-Some.ensures.1

pub returns-in-None-clause-rest : goal.returns-in-None-clause-rest
returns-in-None-clause-rest c = blank_alone c.args.line.now c.in-None.ensures
