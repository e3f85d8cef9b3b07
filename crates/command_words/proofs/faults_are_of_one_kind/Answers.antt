use Rattle.command_words.proofs.OneFault.{faults_one}
use Rattle.command_words.proofs.faults_are_of_one_kind.Goals as goal

pub returns : goal.returns
returns c = faults_one
