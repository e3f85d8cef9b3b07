use Rattle.std.proofs.Common.{arith, ◌≡◌, ◌∙◌, ◌∷◌, [], ◌++◌, sym, subst, ap}
use Rattle.std.specs.Prelude.{Some}
use Rattle.answer_text.specs.declared.Refusal.TheVariants as cause
use Rattle.tentris_core.specs.declared.question.Question.TheVariants.{Refused}
use Rattle.script_model.specs.Commands.{question_of}
use Rattle.line_batch.specs.Batches.{lent_line}
use Rattle.tentris_core.specs.Questions.{IsGathered}
use Rattle.tentris_core.proofs.QuestionLemmas.{line_long, text_long, text_more}
use Rattle.tentris_core.proofs.question.with_text.Goals as goal

pub returns-in_default : goal.returns-in_default
returns-in_default c = λ body e. subst (λ o. IsGathered (body ++ lent_line o ∷ []) (Refused cause.Long)) (sym c.in_default.is) (line_long body)

pub returns-then-saturating_sub-line : goal.returns-then-saturating_sub-line
returns-then-saturating_sub-line c = λ body e.
    subst (λ o. IsGathered (body ++ lent_line o ∷ []) (Refused cause.Long)) (sym c.in-Some.is)
    (text_long body c.args.text.items c.in-Some.line.now e (omega (arith, c.saturating_sub.ensures, c.len.ensures, c.if-saturating_sub-line.true)))

pub returns-in-Ok : goal.returns-in-Ok
returns-in-Ok c = λ body e.
    subst (λ o. question_of (body ++ lent_line o ∷ []) ≡ Some c.add.new.text.items) (sym c.in-Some.is)
    (text_more body c.args.text.items c.in-Some.line.now e (omega (arith, c.saturating_sub.ensures, c.len.ensures, c.if-saturating_sub-line.false)) ∙ ap Some (sym c.in-Ok.ensures.ok))
