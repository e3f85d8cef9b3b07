use Rattle.ntriples_model.proofs.Labels.{labels}
use Rattle.ntriples_model.proofs.Quoted.{iris, strings}
use Rattle.ntriples_model.proofs.Tags.{tags}
use Rattle.ntriples_model.proofs.terminals_by_productions.Goals as goal

pub returns : goal.returns
returns c = record { iris = iris; strings = strings; labels = labels; tags = tags }
