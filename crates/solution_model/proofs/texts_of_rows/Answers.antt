use Rattle.solution_model.proofs.RowLemmas.{same_rows}
use Rattle.solution_model.proofs.texts_of_rows.Goals as goal

pub returns : goal.returns
returns c = same_rows
