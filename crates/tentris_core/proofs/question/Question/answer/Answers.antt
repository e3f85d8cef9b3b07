use Rattle.std.proofs.Common.{◌≡◌, ◌∙◌, subst, sym, ap}
use Rattle.std.specs.Prelude.{Some}
use Rattle.script_model.specs.Commands.{question_of}
use Rattle.tentris_core.specs.Questions.{IsGathered}
use Rattle.tentris_core.proofs.QuestionLemmas.{refused_answer}
use Rattle.tentris_core.proofs.question.Question.answer.Goals as goal

pub returns-in-Refused-clause-answers : goal.returns-in-Refused-clause-answers
returns-in-Refused-clause-answers g c = λ A body plain sound h. refused_answer A c.args.store.now body sound c.in-Refused.cause _ _ _ (subst (IsGathered body) c.in-Refused.is h) c.pass_on.ensures.text

pub returns-in-Text-clause-answers : goal.returns-in-Text-clause-answers
returns-in-Text-clause-answers g c = λ A body plain sound h.
    let e : question_of body ≡ Some c.in-Text.text.items = subst (IsGathered body) c.in-Text.is h in
    c.ask.ensures.answers A body plain sound (e ∙ ap Some (sym c.deref.ensures.value))
