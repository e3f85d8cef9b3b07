use Rattle.command_words.specs.Words.{faults, rows}
use Rattle.command_words.proofs.OneFault.{faults_one}
use Rattle.command_words.proofs.Settled.{accepted_iff, help_iff, refused_iff}
use Rattle.command_words.proofs.answers_are_exact.Goals as goal

pub returns : goal.returns
returns c = record {
  accepted = λ words s. accepted_iff (faults words) (rows words) s;
  help = λ words. help_iff (faults words) (rows words) (faults_one words);
  refused = λ words. refused_iff (faults words) (rows words) (faults_one words);
}
