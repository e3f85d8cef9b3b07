-- Where a script stands between two of its lines, and what a line there does.
use Rattle.std.specs.Prelude.{◌≡◌, ℕ, ◌+◌, ◌≤◌, true, List, [], ◌∷◌, length, Option, Some, None}
use Rattle.text_lines.specs.Lines.{Line}
use Rattle.script_model.specs.Commands as script
use Rattle.script_model.specs.Commands.{Command, outside, inside, is_closed}
use Rattle.run_model.specs.Answers as model
use Rattle.run_model.specs.Sayings.{sayings}
use Rattle.run_model.specs.Worlds.{FailedRead}
use Rattle.graph_store.specs.StoreState.{StoreState}
use Rattle.tn_io.specs.FileFaults.{FaultCounts}
use Rattle.line_batch.specs.Batches.{IsBatch, IsReady}
use Rattle.line_batch.specs.Seen.{answer_of}
use Rattle.line_batch.specs.Sound.{IsBetweenCommands}
use Rattle.line_batch.specs.declared.answer.Answer.{Answer}
use Rattle.tentris_core.specs.declared.outcome.Outcome.{Outcome}
use Rattle.tentris_core.specs.declared.outcome.Outcome.TheVariants.{GoesOn, Answered, Cut}
use Rattle.tentris_core.specs.declared.block.Block.{Block}
use Rattle.tentris_core.specs.declared.block.Progress.{Progress}
use Rattle.tentris_core.specs.declared.block.Progress.TheVariants as place
use Rattle.tentris_core.specs.Puts.{WritesAnswer}
use Rattle.tentris_core.specs.Questions.{IsGathered}
use Rattle.tentris_core.specs.Traffic.{IsCounted}
use Rattle.line_batch.specs.Carrying.{Around, Carries}

-- outside a block, or in a block that has had some lines
pub data Position : Type 0 where
  Outside : Position
  Inside : (kind : script.Kind) (body : List Line) → Position

-- the commands of the lines from there on
abbrev pub commands_from : Position → List Line → List Command
commands_from Outside ls = outside ls
commands_from (Inside kind body) ls = inside kind body ls

-- how many lines the block has had
abbrev pub lines_had : Position → ℕ
lines_had Outside = 0
lines_had (Inside kind body) = length body

-- the lines of a block of triples; their labels are left as they are
pub record IsBlock (s : StoreState) (change : script.Change) (body : List Line) (now : StoreState) (block : Block) : Type 0 where
  pub count : block.lines ≡ length body
  pub batch : IsBatch s change (sayings [] body) now block.batch

-- The store is `now`, and was s after the last command.
abbrev pub IsAt : Position → StoreState → StoreState → Progress → Type 0
IsAt Outside s now place.Outside = now ≡ s
IsAt Outside s now (place.Inside block) = ⊥
IsAt (Inside kind body) s now place.Outside = ⊥
IsAt (Inside (script.Triples change) body) s now (place.Inside block) = IsBlock s change body now block
IsAt (Inside script.Question body) s now (place.Inside block) = ⊥
IsAt Outside s now (place.Asks question) = ⊥
IsAt (Inside (script.Triples change) body) s now (place.Asks question) = ⊥
IsAt (Inside script.Question body) s now (place.Asks question) = (now ≡ s) × IsGathered body question

-- how many lines the block of a place has had
abbrev pub lines_in : Progress → ℕ
lines_in place.Outside = 0
lines_in (place.Inside block) = block.lines
lines_in (place.Asks question) = 0

-- the store can carry out a command outside a block, or the block of the place
abbrev pub IsReadyAt : (ℕ → ℕ → ℕ → ℕ → ℕ) → StoreState → Progress → Type 0
IsReadyAt mixed now place.Outside = IsBetweenCommands mixed now
IsReadyAt mixed now (place.Inside block) = IsReady now block.batch
IsReadyAt mixed now (place.Asks question) = Unit {0}

-- where a script stands, and the sound store after its last command
pub record HasBeen (mixed : ℕ → ℕ → ℕ → ℕ → ℕ) (now : StoreState) (place : Progress) : Type 0 where
  pub position : Position
  pub last : StoreState
  pub sound : IsBetweenCommands mixed last
  pub is_at : IsAt position last now place

-- A line that commands something took the store from s to t, and reads of files were counted.
pub record CarriesLine (A : Around) (s : StoreState) (c : script.OneLine) (t : StoreState) (a : model.Answer) (before now : FaultCounts) : Type 0 where
  pub failed : Option FailedRead
  pub carries : Carries A s (script.Single c) t a failed
  pub counted : IsCounted before now failed

-- A line leads on from one position to another, and ends no command.
abbrev pub GoesTo : Position → Line → Position → Type 0
GoesTo p l q = (rest : List Line) → commands_from p (l ∷ rest) ≡ commands_from q rest

-- A line leads on out of any block, and ends a command, which takes the store from s to t.
pub record EndsCommand (A : Around) (p : Position) (l : Line) (s : StoreState) (q : Position) (t : StoreState) : Type 0 where
  pub command : Command
  pub closed : is_closed command ≡ true
  pub out : q ≡ Outside
  pub are : (rest : List Line) → commands_from p (l ∷ rest) ≡ command ∷ commands_from q rest
  pub answer : model.Answer
  pub failed : Option FailedRead
  pub carries : Carries A s command t answer failed

-- what a line may do beside the store: what was written, and how often reads of files failed
pub record Effects : Type 0 where
  pub written : Option (List ℕ)
  pub faults : FaultCounts

abbrev pub effects : Option (List ℕ) → FaultCounts → Effects
effects written faults = record { written = written; faults = faults }

-- what a line leads to, with an answer that isn't written yet
abbrev pub LeadsTo : Around → Position → Line → StoreState → Position → StoreState → FaultCounts → FaultCounts → Option Answer → Type 0
LeadsTo A p l s q t before now None = (t ≡ s) × GoesTo p l q × (now ≡ before)
LeadsTo A p l s q t before now (Some a) = (e : EndsCommand A p l s q t) × (e.answer ≡ answer_of a) × IsCounted before now e.failed

-- What a line leads to, and what was written of the answer.
abbrev pub LeadsOn : Around → Position → Line → StoreState → Position → StoreState → Effects → Effects → Outcome → Type 0
LeadsOn A p l s q t before now GoesOn = (t ≡ s) × GoesTo p l q × (now ≡ before)
LeadsOn A p l s q t before now (Answered refused) =
    (e : EndsCommand A p l s q t) × WritesAnswer before.written now.written (Answered refused) e.answer × IsCounted before.faults now.faults e.failed
LeadsOn A p l s q t before now Cut =
    (e : EndsCommand A p l s q t) × WritesAnswer before.written now.written Cut e.answer × IsCounted before.faults now.faults e.failed

-- a line was taken; the store was s after the last command before it, and is `now`
pub record MeetsLine (A : Around) (p : Position) (l : Line) (s now : StoreState) (place : Progress) (before then : FaultCounts) (answer : Option Answer) : Type 0 where
  pub next : Position
  pub after : StoreState
  pub is_at : IsAt next after now place
  pub leads : LeadsTo A p l s next after before then answer
  pub had : lines_had next ≤ lines_had p + 1

-- a line was taken, and what it leads to was written
pub record TakesLine (A : Around) (p : Position) (l : Line) (s now : StoreState) (place : Progress) (before then : Effects) (outcome : Outcome) : Type 0 where
  pub next : Position
  pub after : StoreState
  pub is_at : IsAt next after now place
  pub leads : LeadsOn A p l s next after before then outcome
  pub had : lines_had next ≤ lines_had p + 1
