use Rattle.std.proofs.Common.{subst}
use Rattle.line_batch.specs.Batches.{lent_line}
use Rattle.tentris_core.specs.Questions.{IsGathered}
use Rattle.tentris_core.proofs.QuestionLemmas.{refused_more}
use Rattle.tentris_core.proofs.question.Question.with_line.Goals as goal

pub returns-in-Refused : goal.returns-in-Refused
returns-in-Refused c = λ body h. refused_more body (lent_line c.args.line) c.in-Refused.cause (subst (IsGathered body) c.in-Refused.is h)

pub returns-in-Text : goal.returns-in-Text
returns-in-Text c = λ body h. c.with_text.ensures body (subst (IsGathered body) c.in-Text.is h)
