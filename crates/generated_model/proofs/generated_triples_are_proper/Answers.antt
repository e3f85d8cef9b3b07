use Rattle.generated_model.proofs.ProperIris.{proper_triples}
use Rattle.generated_model.proofs.generated_triples_are_proper.Goals as goal

pub returns : goal.returns
returns c = proper_triples
