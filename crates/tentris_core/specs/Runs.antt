-- What a run over a source and a sink did.
use Rattle.std.specs.Prelude.{◌≡◌, ◌⊎◌, ℕ, ◌≤◌, ◌<◌, Bool, true, false, List, [], ◌∷◌, ◌++◌, length, take}
use Rattle.std.specs.declared.option.Option.{Option}
use Rattle.std.specs.Io.KnownBytes.{append_known, prepend_known, IsAtEnd}
use Rattle.text_lines.specs.Lines.{lines_of, whole_lines_of}
use Rattle.script_model.specs.Commands.{Command, commands_of, closed_commands_of}
use Rattle.run_model.specs.Answers.{answer_text}
use Rattle.run_model.specs.Steps.{commands_in, text_of, some_refused, failed_reads}
use Rattle.graph_store.specs.StoreState.{StoreState}
use Rattle.line_batch.specs.Carrying.{Around}
use Rattle.tentris_core.specs.Carrying.{StoreEvent, events_in, RunsOver}
use Rattle.tentris_core.specs.Puts.{IsPart}
use Rattle.tentris_core.specs.Traffic.{Traffic, WasShown, dumps_of, AreCounted}
use Rattle.tentris_core.specs.declared.running.Status.{Status}
use Rattle.tentris_core.specs.declared.running.Status.TheVariants.{Done, SomeRefused, BadWords, ReadFault, WriteFault, Memory, TooLong}

-- the watch was shown each command of the run, and each failed read was counted
pub record IsWatched (A : Around) (trace : List StoreEvent) (before now : Traffic) : Type 0 where
  pub shown : WasShown before.shown now.shown (dumps_of (events_in A trace))
  pub counted : AreCounted before.faults now.faults (failed_reads (events_in A trace))

-- The source was read to its end: all commands were carried out and answered. `refused` says whether one was refused.
pub record RunsAll (A : Around) (refused : Bool) (s t : StoreState) (before now : Traffic) : Type 0 where
  pub taken : List ℕ
  pub trace : List StoreEvent
  pub read : before.left ≡ prepend_known taken now.left
  pub at_end : IsAtEnd now.left
  pub within : length taken ≤ A.most_bytes
  pub runs : RunsOver A s trace t
  pub commands : commands_in (events_in A trace) ≡ commands_of (lines_of taken)
  pub wrote : now.written ≡ append_known before.written (text_of (events_in A trace))
  pub refusals : some_refused (events_in A trace) ≡ refused
  pub watched : IsWatched A trace before now

-- A read failed: the commands that the bytes taken close were carried out and answered.
pub record RunsTaken (A : Around) (s t : StoreState) (before now : Traffic) : Type 0 where
  pub taken : List ℕ
  pub trace : List StoreEvent
  pub read : before.left ≡ prepend_known taken now.left
  pub within : length taken ≤ A.most_bytes
  pub runs : RunsOver A s trace t
  pub commands : commands_in (events_in A trace) ≡ closed_commands_of (whole_lines_of taken)
  pub wrote : now.written ≡ append_known before.written (text_of (events_in A trace))
  pub watched : IsWatched A trace before now

-- The source has more bytes than the script may have: the commands that its first bytes close were carried out and answered.
pub record RunsFront (A : Around) (s t : StoreState) (before now : Traffic) : Type 0 where
  pub taken : List ℕ
  pub trace : List StoreEvent
  pub read : before.left ≡ prepend_known taken now.left
  pub over : A.most_bytes < length taken
  pub runs : RunsOver A s trace t
  pub commands : commands_in (events_in A trace) ≡ closed_commands_of (whole_lines_of (take A.most_bytes taken))
  pub wrote : now.written ≡ append_known before.written (text_of (events_in A trace))
  pub watched : IsWatched A trace before now

-- The commands that a run may have carried out when a write fails: some that the first max of the bytes taken close, or,
-- where the source was read to its end, some of all.
abbrev pub AreAllowed : ℕ → List ℕ → Option (List ℕ) → List Command → Type 0
AreAllowed max taken left commands =
    ((more : List Command) × (closed_commands_of (whole_lines_of (take max taken)) ≡ commands ++ more))
    ⊎ (IsAtEnd left × (length taken ≤ max) × (more : List Command) × (commands_of (lines_of taken) ≡ commands ++ more))

-- A write failed: each command but the last was answered whole, and of the last one's answer a front was written.
pub record RunsCut (A : Around) (s t : StoreState) (before now : Traffic) : Type 0 where
  pub taken : List ℕ
  pub front : List StoreEvent
  pub last : StoreEvent
  pub read : before.left ≡ prepend_known taken now.left
  pub allowed : AreAllowed A.most_bytes taken now.left (commands_in (events_in A (front ++ last ∷ [])))
  pub runs : RunsOver A s (front ++ last ∷ []) t
  pub wrote : IsPart (append_known before.written (text_of (events_in A front))) now.written (answer_text last.answer)
  pub watched : IsWatched A (front ++ last ∷ []) before now

-- nothing was read, written, shown or changed
pub record IsUntouched (s t : StoreState) (before now : Traffic) : Type 0 where
  pub same : t ≡ s
  pub still : now ≡ before

-- what each status says of a run
abbrev pub Ends : Status → Around → StoreState → StoreState → Traffic → Traffic → Type 0
Ends Done A = RunsAll A false
Ends SomeRefused A = RunsAll A true
Ends BadWords A = IsUntouched
Ends ReadFault A = RunsTaken A
Ends WriteFault A = RunsCut A
Ends Memory A = IsUntouched
Ends TooLong A = RunsFront A
