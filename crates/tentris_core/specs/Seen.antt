-- What is written of an answer that a line may have.
use Rattle.std.specs.Prelude.{◌≡◌, ℕ, List, Some, None}
use Rattle.std.specs.declared.option.Option.{Option}
use Rattle.line_batch.specs.Seen.{answer_of}
use Rattle.line_batch.specs.declared.answer.Answer.{Answer}
use Rattle.tentris_core.specs.Puts.{WritesAnswer}
use Rattle.tentris_core.specs.declared.outcome.Outcome.{Outcome}
use Rattle.tentris_core.specs.declared.outcome.Outcome.TheVariants.{GoesOn}

-- what was written of an answer, if there is one
abbrev pub Tells : Option (List ℕ) → Option (List ℕ) → Outcome → Option Answer → Type 0
Tells before now outcome None = (now ≡ before) × (outcome ≡ GoesOn)
Tells before now outcome (Some a) = WritesAnswer before now outcome (answer_of a)
