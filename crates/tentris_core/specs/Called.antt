-- What a call of the program says, by the words of its command line.
use Rattle.std.specs.Prelude.{◌≡◌, ◌⊎◌, ℕ, List}
use Rattle.std.specs.declared.option.Option.{Option}
use Rattle.std.specs.Io.KnownBytes.{append_known}
use Rattle.file_model.specs.FileMap.{FileMap}
use Rattle.command_words.specs.Answers as words
use Rattle.command_words.specs.declared.Settings.{Settings}
use Rattle.graph_store.specs.StoreState.{StoreState}
use Rattle.line_batch.specs.Carrying.{Around}
use Rattle.tentris_core.specs.Carrying.{around}
use Rattle.tentris_core.specs.Traffic.{Traffic}
use Rattle.tentris_core.specs.Runs.{IsUntouched, Ends}
use Rattle.tentris_core.specs.declared.running.Status.{Status}
use Rattle.tentris_core.specs.declared.running.Status.TheVariants.{Done, SomeRefused, BadWords, ReadFault, WriteFault, Memory, TooLong}

-- how the words set a run over these files
abbrev pub around_by : Settings → (ℕ → ℕ → ℕ → ℕ → ℕ) → Option FileMap → Around
around_by settings mixed files = around mixed settings.sort settings.max_bytes files

-- the store with as many triples at most as the words say
abbrev pub bounded_by : Settings → StoreState → StoreState
bounded_by settings s = record s { max = settings.max_triples }

-- a text of help was written, or a front of it and then a fault
abbrev pub WritesHelp : Option (List ℕ) → Option (List ℕ) → Status → Type 0
WritesHelp before now status = ((status ≡ Done) ⊎ (status ≡ WriteFault)) × (help : List ℕ) × (now ≡ append_known before help)

-- That was all: nothing was read, and the store is as before.
pub record Helps (s t : StoreState) (before now : Traffic) : Type 0 where
  pub same : t ≡ s
  pub help : List ℕ
  pub still : now ≡ record before { written = append_known before.written help }

-- memory ran out before anything was read or written
pub record Lacks (settings : Settings) (s t : StoreState) (before now : Traffic) : Type 0 where
  pub same : (t ≡ s) ⊎ (t ≡ bounded_by settings s)
  pub still : now ≡ before

-- what the status says where the words are understood
abbrev pub EndsScript : Settings → Status → (ℕ → ℕ → ℕ → ℕ → ℕ) → Option FileMap → StoreState → StoreState → Traffic → Traffic → Type 0
EndsScript settings BadWords mixed files s t before now = ⊥
EndsScript settings Memory mixed files s t before now = Lacks settings s t before now
EndsScript settings status mixed files s t before now = Ends status (around_by settings mixed files) (bounded_by settings s) t before now

-- where they ask for help
abbrev pub EndsHelp : Status → StoreState → StoreState → Traffic → Traffic → Type 0
EndsHelp Done s t before now = Helps s t before now
EndsHelp WriteFault s t before now = Helps s t before now
EndsHelp Memory s t before now = IsUntouched s t before now
EndsHelp SomeRefused s t before now = ⊥
EndsHelp BadWords s t before now = ⊥
EndsHelp ReadFault s t before now = ⊥
EndsHelp TooLong s t before now = ⊥

-- where they are refused
abbrev pub EndsRefused : Status → StoreState → StoreState → Traffic → Traffic → Type 0
EndsRefused BadWords s t before now = IsUntouched s t before now
EndsRefused Memory s t before now = IsUntouched s t before now
EndsRefused Done s t before now = ⊥
EndsRefused SomeRefused s t before now = ⊥
EndsRefused ReadFault s t before now = ⊥
EndsRefused WriteFault s t before now = ⊥
EndsRefused TooLong s t before now = ⊥

-- The status is Done or WriteFault with help, BadWords exactly where the words are refused and memory sufficed, and else that of the script.
abbrev pub EndsCall : words.Answer → Status → (ℕ → ℕ → ℕ → ℕ → ℕ) → Option FileMap → StoreState → StoreState → Traffic → Traffic → Type 0
EndsCall (words.accepts settings) status mixed files s t before now = EndsScript settings status mixed files s t before now
EndsCall words.shows_help status mixed files s t before now = EndsHelp status s t before now
EndsCall words.refuses status mixed files s t before now = EndsRefused status s t before now

-- BadWords comes only where the words are refused; there it comes, but for want of memory.
pub record IsByWords (answer : words.Answer) (status : Status) : Type 0 where
  pub only : status ≡ BadWords → answer ≡ words.refuses
  pub refused : answer ≡ words.refuses → (status ≡ BadWords) ⊎ (status ≡ Memory)
