use Rattle.script_read.proofs.BlankLemmas.{ends_at, blank_to_end}
use Rattle.script_read.proofs.blanks.end_before_blanks.Goals as goal

pub returns-in-Some-clause-rest : goal.returns-in-Some-clause-rest
returns-in-Some-clause-rest c = ends_at c.args.line.now c.in-Some.place c.in-Some.ensures.0 c.in-Some.ensures.1

pub returns-in-None-clause-rest : goal.returns-in-None-clause-rest
returns-in-None-clause-rest c = blank_to_end c.args.line.now c.in-None.ensures
