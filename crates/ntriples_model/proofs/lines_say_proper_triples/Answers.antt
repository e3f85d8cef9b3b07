use Rattle.ntriples_model.specs.ProperLaws.{lines_say_proper, texts_of_lines}
use Rattle.ntriples_model.proofs.TermTexts.{texts_stand}
use Rattle.ntriples_model.proofs.lines_say_proper_triples.Goals as goal

pub returns-clause-proper : goal.returns-clause-proper
returns-clause-proper c = lines_say_proper texts_stand

pub returns-clause-texts : goal.returns-clause-texts
returns-clause-texts c = texts_of_lines texts_stand
