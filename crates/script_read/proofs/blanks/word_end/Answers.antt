use Rattle.script_read.proofs.WordLemmas.{word_at, behind_at, word_alone, behind_alone}
use Rattle.script_read.proofs.blanks.word_end.Goals as goal

pub returns-in-Some-clause-word : goal.returns-in-Some-clause-word
returns-in-Some-clause-word c = word_at c.args.text.now c.in-Some.place c.in-Some.ensures.0 c.in-Some.ensures.1

pub returns-in-Some-clause-rest : goal.returns-in-Some-clause-rest
returns-in-Some-clause-rest c = behind_at c.args.text.now c.in-Some.place c.in-Some.ensures.0 c.in-Some.ensures.1

pub returns-in-None-clause-word : goal.returns-in-None-clause-word
returns-in-None-clause-word c = word_alone c.args.text.now c.in-None.ensures

pub returns-in-None-clause-rest : goal.returns-in-None-clause-rest
returns-in-None-clause-rest c = behind_alone c.args.text.now c.in-None.ensures
