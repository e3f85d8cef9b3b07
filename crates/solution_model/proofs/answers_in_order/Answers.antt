use Rattle.solution_model.specs.AnswerLaws.{sorted_answers, sorted_texts}
use Rattle.solution_model.proofs.answers_in_order.Goals as goal

pub returns : goal.returns
returns c = record { answers = sorted_answers; sorted = sorted_texts }
