use Rattle.ntriples_model.proofs.Lines.{lines_are_productions}
use Rattle.ntriples_model.proofs.lines_by_productions.Goals as goal

pub returns : goal.returns
returns c = lines_are_productions
