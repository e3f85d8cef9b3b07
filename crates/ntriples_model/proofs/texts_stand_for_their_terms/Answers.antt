use Rattle.ntriples_model.proofs.TermTexts.{texts_stand}
use Rattle.ntriples_model.proofs.texts_stand_for_their_terms.Goals as goal

pub returns : goal.returns
returns c = texts_stand
