use Rattle.bag_model.specs.AnswerLaws.{some_answer}
use Rattle.bag_model.proofs.queries_have_answers.Goals as goal

pub returns : goal.returns
returns c = some_answer
