-- What is known where a file was read into a batch, and what a command that reads a file does.
use Rattle.std.specs.Prelude.{◌≡◌, ℕ, ◌≤◌, List, Option, Some, None}
use Rattle.file_model.specs.FileMap.{FileMap, OfFile}
use Rattle.file_model.specs.FileLines.{All, file_lines}
use Rattle.text_lines.specs.Lines.{Line}
use Rattle.rdf_model.specs.Terms.{Text}
use Rattle.script_model.specs.Commands as script
use Rattle.tn_io.specs.Causes.{Rose}
use Rattle.tn_io.specs.FileFaults.{FaultCounts}
use Rattle.run_model.specs.Answers.{Answer}
use Rattle.run_model.specs.Sayings.{sayings}
use Rattle.run_model.specs.Loads.{RefusesFile, FailsAt}
use Rattle.run_model.specs.Worlds.{FailedRead}
use Rattle.graph_store.specs.StoreState.{StoreState}
use Rattle.answer_text.specs.declared.Refusal.{Refusal}
use Rattle.answer_text.specs.declared.Refusal.TheVariants as cause
use Rattle.answer_text.specs.Seen.{refusal_of}
use Rattle.line_batch.specs.Batches.{IsBatch, IsReady}
use Rattle.line_batch.specs.Carrying.{Around, config_in, world_in, Carries}
use Rattle.line_batch.specs.declared.batch.Batch.{Batch}
use Rattle.line_batch.specs.declared.file_lines.Gathered.{Gathered}
use Rattle.line_batch.specs.declared.file_lines.Gathered.TheVariants as gathered

-- the line that commands to load a file, or to unload it
abbrev pub file_command : script.Change → Text → Text → script.Command
file_command change scope name = script.Single (script.File change scope name)

-- A mixes so, a file may have so many bytes, and the files are these, where they are told.
pub record Has (A : Around) (mix : ℕ → ℕ → ℕ → ℕ → ℕ) (most : ℕ) (told : Option FileMap) : Type 0 where
  pub mixed : A.mixed ≡ mix
  pub most_bytes : A.most_bytes ≡ most
  pub files : A.files ≡ told

-- what the counts of failed reads say of the one that failed, if one did: no count fell, and that of this read rose
abbrev pub IsCounted : FaultCounts → FaultCounts → Option FailedRead → Type 0
IsCounted before now None = now ≡ before
IsCounted before now (Some read) = Rose (before read.name read.place) (now read.name read.place) × ((other : Text) → (place : ℕ) → before other place ≤ now other place)

-- A command that reads a file took the store from s to t: a read of it may have failed.
pub record CarriesReads (A : Around) (s : StoreState) (c : script.Command) (t : StoreState) (a : Answer) (before now : FaultCounts) : Type 0 where
  pub failed : Option FailedRead
  pub carries : Carries A s c t a failed
  pub counted : IsCounted before now failed

-- the lines of a whole file are in the batch
pub record HasWhole (A : Around) (s : StoreState) (change : script.Change) (scope name : Text) (now : StoreState) (batch : Batch) : Type 0 where
  pub bytes : List ℕ
  pub told : List Line
  pub lines : file_lines A.most_bytes bytes ≡ All told
  pub there : OfFile A.files name (λ own. own ≡ bytes)
  pub is : IsBatch s change (sayings scope told) now batch

-- the file can't be carried out by its bytes, or memory has run out
abbrev pub IsFileCause : Around → StoreState → script.Change → Text → Text → Refusal → Type 0
IsFileCause A s change scope name (cause.Line n) = RefusesFile (config_in A s) (world_in A s) change scope name (refusal_of (cause.Line n))
IsFileCause A s change scope name (cause.Full n) = RefusesFile (config_in A s) (world_in A s) change scope name (refusal_of (cause.Full n))
IsFileCause A s change scope name cause.Long = RefusesFile (config_in A s) (world_in A s) change scope name (refusal_of cause.Long)
IsFileCause A s change scope name cause.Memory = Unit {0}
IsFileCause A s change scope name cause.Command = ⊥
IsFileCause A s change scope name cause.Query = ⊥
IsFileCause A s change scope name cause.File = ⊥
IsFileCause A s change scope name cause.Prefix = ⊥
IsFileCause A s change scope name cause.Size = ⊥
IsFileCause A s change scope name cause.Unended = ⊥

-- What is known of the store, which was s before the file was read, by how its lines were gathered. `place` is that of the last read.
abbrev pub Gathers : Around → StoreState → script.Change → Text → Text → StoreState → ℕ → Gathered → Type 0
Gathers A s change scope name now place (gathered.Whole batch) = HasWhole A s change scope name now batch
Gathers A s change scope name now place (gathered.Refused cause) = (now ≡ s) × IsFileCause A s change scope name cause
Gathers A s change scope name now place gathered.Failed = (now ≡ s) × FailsAt (config_in A s) (world_in A s) change scope name place

-- the read that failed, if one did
abbrev pub failed_read : Text → ℕ → Gathered → Option FailedRead
failed_read name place (gathered.Whole batch) = None
failed_read name place (gathered.Refused cause) = None
failed_read name place gathered.Failed = Some (record { name = name; place = place })

-- the store can carry the gathered lines out
abbrev pub IsReadyGathered : StoreState → Gathered → Type 0
IsReadyGathered now (gathered.Whole batch) = IsReady now batch
IsReadyGathered now (gathered.Refused cause) = Unit {0}
IsReadyGathered now gathered.Failed = Unit {0}
