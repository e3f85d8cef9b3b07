use Rattle.solution_model.specs.RestLaws.{fixes_constants}
use Rattle.solution_model.proofs.constants_by_slices.Goals as goal

pub returns : goal.returns
returns c = fixes_constants
