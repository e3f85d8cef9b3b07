use Rattle.solution_model.specs.UniverseLaws.{rows_read, chosen_rows_read}
use Rattle.solution_model.proofs.rows_over_numbers.Goals as goal

pub returns : goal.returns
returns c = record {
  rows = λ q G term known numbers rests s. rows_read q G s.labelled term known s.one numbers rests s.known_numbers s.read s.whole;
  chosen = λ q G term known numbers rests s. chosen_rows_read q G s.labelled term known s.one numbers rests s.known_numbers s.read s.whole;
}
