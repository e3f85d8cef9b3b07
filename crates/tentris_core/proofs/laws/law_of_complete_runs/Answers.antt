use Rattle.tentris_core.proofs.CompleteLemmas.{runs_are_complete}
use Rattle.tentris_core.proofs.laws.law_of_complete_runs.Goals as goal

pub returns : goal.returns
returns c = runs_are_complete
