use Rattle.query_grammar.specs.Meaning.{query_of}
use Rattle.tentris_core.proofs.QuestionLemmas.{fault_answer}
use Rattle.tentris_core.proofs.question.ask.Goals as goal

pub returns-in-Err-clause-answers : goal.returns-in-Err-clause-answers
returns-in-Err-clause-answers g c = λ A body plain sound e. fault_answer A c.args.store.now body sound c.args.text.now c.cause_of.result _ _ _ e (c.cause_of.ensures (query_of c.args.text.now) c.in-Err.ensures.query) c.pass_on.ensures.text
