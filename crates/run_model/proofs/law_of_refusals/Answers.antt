use Rattle.run_model.proofs.RefusalLaws.{first_refusal_is_by_place}
use Rattle.run_model.proofs.law_of_refusals.Goals as goal

pub returns : goal.returns
returns c = first_refusal_is_by_place
