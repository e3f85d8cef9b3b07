-- When a run carries out every command: no refusal of the definitions stands against one, and no read of a file failed.
use Rattle.std.specs.Prelude.{◌≡◌, ◌⊎◌, ℕ, false, List, [], ◌∷◌, ⊤, None}
use Rattle.rdf_model.specs.Terms.{Text}
use Rattle.script_model.specs.Commands.{Change, Command, Single, File}
use Rattle.run_model.specs.Answers.{Refusal, Refused, NoMemory, is_refused}
use Rattle.run_model.specs.Loads.{RefusesFile}
use Rattle.run_model.specs.Worlds.{Config, World}
use Rattle.run_model.specs.Steps.{refusal_of, failed_reads}
use Rattle.tn_io.specs.Causes.{Rose}
use Rattle.tn_io.specs.FileFaults.{FaultCounts}
use Rattle.graph_store.specs.StoreState.{StoreState}
use Rattle.line_batch.specs.Carrying.{Around, config_in, world_in}
use Rattle.tentris_core.specs.Carrying.{StoreEvent, events_in, RunsOver}
use Rattle.tentris_core.specs.Traffic.{AreCounted}

-- Nothing refuses the command: neither its lines nor the bytes of its file.
pub record IsFree (cfg : Config) (W : World) (c : Command) : Type 0 where
  pub lines : refusal_of cfg W c ≡ None
  pub file : (change : Change) (scope name : Text) (r : Refusal) → c ≡ Single (File change scope name) → RefusesFile cfg W change scope name r → ⊥

-- each command is free over what those before it left
abbrev pub AreFree : Around → StoreState → List StoreEvent → Type 0
AreFree A s [] = ⊤
AreFree A s (e ∷ es) = IsFree (config_in A s) (world_in A s) e.command × AreFree A e.store es

-- No count of a name that one of the commands gives rose.
abbrev pub AreUnraised : FaultCounts → FaultCounts → List StoreEvent → Type 0
AreUnraised before now [] = ⊤
AreUnraised before now (e ∷ es) =
    ((change : Change) (scope name : Text) → e.command ≡ Single (File change scope name) → (place : ℕ) → Rose (before name place) (now name place) → ⊥)
    × AreUnraised before now es

-- each command is carried out, but for want of memory
abbrev pub AreDone : List StoreEvent → Type 0
AreDone [] = ⊤
AreDone (e ∷ es) = ((is_refused e.answer ≡ false) ⊎ (e.answer ≡ Refused NoMemory)) × AreDone es

-- A run whose commands are free, and in which no count of a name rose that they give, carries out every command, but for want of memory.
abbrev pub RunsAreComplete : Type 0
RunsAreComplete =
    (A : Around) (s t : StoreState) (trace : List StoreEvent) (before now : FaultCounts)
    → RunsOver A s trace t → AreFree A s trace → AreCounted before now (failed_reads (events_in A trace)) → AreUnraised before now trace
    → AreDone trace
