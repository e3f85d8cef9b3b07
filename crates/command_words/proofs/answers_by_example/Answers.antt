use Rattle.std.proofs.Common.{refl}
use Rattle.clap.proofs.OnLiterals.{clap_on_literals}
use Rattle.command_words.proofs.answers_by_example.Goals as goal

pub returns : goal.returns
unfolding clap_on_literals
returns c = record {
  nothing = refl;
  sort = refl;
  triples = refl;
  bytes = refl;
  help = refl;
  short_help = refl;
  help_first = refl;
  help_late = refl;
  too_many = refl;
  too_few = refl;
  version = refl;
}
