-- With sorted rows, what a call writes and leaves is a function of the words, the script, the files and the graph: unless memory ran out
-- for a command, or a read or a write failed.
use Rattle.std.specs.Prelude.{◌≡◌, ◌≢◌, ℕ, Bool, true, List, [], ◌∷◌, ◌++◌, ⊤, Option, Some, None}
use Rattle.file_model.specs.FileMap.{FileMap}
use Rattle.rdf_model.specs.Terms.{Text}
use Rattle.rdf_model.specs.Graph.{Graph}
use Rattle.command_words.specs.declared.Settings.{Settings}
use Rattle.run_model.specs.Answers.{Refused, NoMemory}
use Rattle.run_model.specs.Worlds.{Config, World}
use Rattle.run_model.specs.Steps.{Event, Run, commands_in, text_of}
use Rattle.tn_io.specs.Causes.{Rose}
use Rattle.tn_io.specs.FileFaults.{FaultCounts}
use Rattle.graph_store.specs.StoreState.{StoreState, graph}
use Rattle.line_batch.specs.Carrying.{Around, config_in}
use Rattle.tentris_core.specs.Carrying.{StoreEvent}
use Rattle.tentris_core.specs.Traffic.{Traffic}
use Rattle.tentris_core.specs.Runs.{RunsAll, RunsFront}
use Rattle.tentris_core.specs.Called.{around_by, bounded_by, EndsScript}
use Rattle.tentris_core.specs.declared.running.Status.{Status}
use Rattle.tentris_core.specs.declared.running.Status.TheVariants.{ReadFault, WriteFault, Memory}

-- Runs

-- Memory sufficed for the command, and no read of its file failed.
pub record IsUnhindered (e : Event) : Type 0 where
  pub memory : e.answer ≢ Refused NoMemory
  pub reads : e.failed ≡ None

abbrev pub AreUnhindered : List Event → Type 0
AreUnhindered [] = ⊤
AreUnhindered (e ∷ es) = IsUnhindered e × AreUnhindered es

-- Two runs of the same commands from one world, whose files are told, answer and leave the same, where nothing hindered them.
abbrev pub SortedRunsAgree : Type 0
SortedRunsAgree =
    (cfg : Config) (files : FileMap) (W V U : World) (one other : List Event)
    → cfg.sorted ≡ true → W.files ≡ Some files → Run cfg W one V → Run cfg W other U → commands_in one ≡ commands_in other
    → AreUnhindered one → AreUnhindered other → (text_of one ≡ text_of other) × (V ≡ U)

-- Calls

-- memory sufficed for each command
abbrev pub HadMemory : List StoreEvent → Type 0
HadMemory [] = ⊤
HadMemory (e ∷ es) = (e.answer ≢ Refused NoMemory) × HadMemory es

-- no count of a read rose
abbrev pub AreUnrisen : FaultCounts → FaultCounts → Type 0
AreUnrisen before now = (name : Text) (place : ℕ) → Rose (before name place) (now name place) → ⊥

-- The script was carried out: to its end, or as far as it may go where it has too many bytes.
pub data CarriesOut (A : Around) (s t : StoreState) (before now : Traffic) : List StoreEvent → Type 0 where
  whole : (refused : Bool) (runs : RunsAll A refused s t before now) → CarriesOut A s t before now runs.trace
  front : (runs : RunsFront A s t before now) → CarriesOut A s t before now runs.trace

-- A call carried out this script over the graph G and these files, wrote `out` and left the graph H; nothing hindered it.
pub record SortedCall (cfg : Config) (files : FileMap) (script : List ℕ) (G H : Graph) (out : List ℕ) : Type 0 where
  pub around : Around
  pub s : StoreState
  pub t : StoreState
  pub before : Traffic
  pub now : Traffic
  pub trace : List StoreEvent
  pub had : List ℕ
  pub runs : CarriesOut around s t before now trace
  pub sorted : cfg.sorted ≡ true
  pub set : config_in around s ≡ cfg
  pub told : around.files ≡ Some files
  pub reads : before.left ≡ Some script
  pub begins : graph s ≡ G
  pub ends : graph t ≡ H
  pub written : before.written ≡ Some had
  pub writes : now.written ≡ Some (had ++ out)
  pub memory : HadMemory trace
  pub unrisen : AreUnrisen before.faults now.faults

-- Two such calls with the same settings, files, script and graph write and leave the same.
abbrev pub SortedCallsAgree : Type 0
SortedCallsAgree =
    (cfg : Config) (files : FileMap) (script : List ℕ) (G H K : Graph) (out other : List ℕ)
    → SortedCall cfg files script G H out → SortedCall cfg files script G K other → (out ≡ other) × (H ≡ K)

-- A call that memory sufficed for, and whose script and answers met no fault, carries the script out.
abbrev pub CallsCarryOut : Type 0
CallsCarryOut =
    (settings : Settings) (status : Status) (mixed : ℕ → ℕ → ℕ → ℕ → ℕ) (files : Option FileMap) (s t : StoreState) (before now : Traffic)
    → EndsScript settings status mixed files s t before now → status ≢ Memory → status ≢ ReadFault → status ≢ WriteFault
    → (trace : List StoreEvent) × CarriesOut (around_by settings mixed files) (bounded_by settings s) t before now trace
