-- What is known of a block whose lines are coming, and of the commands of one line that change nothing.
use Rattle.std.specs.Prelude.{◌≡◌, ℕ, Bool, List, [], ◌∷◌, ◌++◌, Option, None}
use Rattle.text_lines.specs.Lines.{Line}
use Rattle.script_model.specs.Commands as script
use Rattle.run_model.specs.Answers as model
use Rattle.tn_io.specs.FileFaults.{FaultCounts}
use Rattle.tn_io.specs.declared.out.Out.{Out}
use Rattle.graph_store.specs.StoreState.{StoreState}
use Rattle.line_batch.specs.Batches.{IsNone}
use Rattle.line_batch.specs.Carrying.{Around, Carries}
use Rattle.line_batch.specs.Sound.{IsBetweenCommands}
use Rattle.line_batch.specs.declared.answer.Answer.{Answer}
use Rattle.line_batch.specs.declared.batch.Batch.{Batch}
use Rattle.tentris_core.specs.Places.{IsBlock, IsAt, MeetsLine, TakesLine, Inside, effects}
use Rattle.tentris_core.specs.Questions.{IsGathered}
use Rattle.tentris_core.specs.declared.block.Block.{Block}
use Rattle.tentris_core.specs.declared.block.Progress.{Progress}
use Rattle.tentris_core.specs.declared.outcome.Outcome.{Outcome}
use Rattle.tentris_core.specs.declared.question.Question.{Question}

-- a block has one line more
abbrev pub HasLineMore : Line → StoreState → Block → StoreState → Block → Type 0
HasLineMore line old block now more = (s : StoreState) (change : script.Change) (body : List Line) → IsBlock s change body old block → IsBlock s change (body ++ line ∷ []) now more

-- a command answers so over a store, and changes nothing
abbrev pub Shows : script.OneLine → StoreState → model.Answer → Type 0
Shows command s answer = (A : Around) → IsBetweenCommands A.mixed s → Carries A s (script.Single command) s answer None

-- a block without a line yet
abbrev pub BeginsBlock : Batch → Progress → Type 0
BeginsBlock batch place = (s : StoreState) (change : script.Change) → IsNone s change batch → IsAt (Inside (script.Triples change) []) s s place

-- a line of a block of triples was taken; no file was read
abbrev pub MeetsInBlock : (ℕ → ℕ → ℕ → ℕ → ℕ) → Line → StoreState → Block → StoreState → Progress → Option Answer → Type 0
MeetsInBlock mixed line old block now place answer =
    (A : Around) (s : StoreState) (change : script.Change) (body : List Line) (faults : FaultCounts) → A.mixed ≡ mixed → IsBetweenCommands A.mixed s → IsBlock s change body old block
    → MeetsLine A (Inside (script.Triples change) body) line s now place faults faults answer

-- a line of a query's block was taken; no file was read
abbrev pub AsksOn : {K : Type 0} → Bool → Line → Question → StoreState → (K → Option (List ℕ)) → Out K → Out K → Progress → Outcome → Type 0
AsksOn sorted line question s written old new place outcome =
    (A : Around) (body : List Line) (faults : FaultCounts) → A.sorted ≡ sorted → IsBetweenCommands A.mixed s → IsGathered body question
    → TakesLine A (Inside script.Question body) line s s place (effects (written old.sink.now) faults) (effects (written new.sink.now) faults) outcome
