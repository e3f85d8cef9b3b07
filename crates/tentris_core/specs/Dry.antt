-- A dry run: a script in memory is carried out over files in memory, no read or write of which fails, and nobody reads the answers.
use Rattle.std.specs.Prelude.{◌≡◌, ℕ, List, [], ◌∷◌, ⊤, None, Some, IfSome}
use Rattle.std.specs.Prelude.{map as map_list}
use Rattle.std.specs.Borrow.{Bor}
use Rattle.std.specs.FinMap as map
use Rattle.file_model.specs.FileMap.{FileMap}
use Rattle.command_words.specs.Answers as words
use Rattle.command_words.specs.declared.Settings.{Settings}
use Rattle.tn_io.specs.FileFaults.{FaultCounts}
use Rattle.tn_io.specs.MemoryFiles.{pure_files, pure_faults}
use Rattle.tn_io.specs.declared.memory_files.PureFiles.{PureFiles}
use Rattle.graph_store.specs.StoreState.{StoreState}
use Rattle.tentris_core.specs.Carrying.{StoreEvent}
use Rattle.tentris_core.specs.Traffic.{Traffic, traffic}
use Rattle.tentris_core.specs.Called.{around_by, bounded_by, EndsCall}
use Rattle.tentris_core.specs.Sorted.{CarriesOut}
use Rattle.tentris_core.specs.declared.running.Status.{Status}

-- what is left of the script and how often reads failed; what is written and shown is told nobody
abbrev pub unheard : List ℕ → FaultCounts → Traffic
unheard left faults = traffic (Some left) None None faults

-- each read that failed was of a name that isn't among the files
abbrev pub FailOnlyMissing : FileMap → List StoreEvent → Type 0
FailOnlyMissing files [] = ⊤
FailOnlyMissing files (e ∷ es) = IfSome e.failed (λ read. map.get files read.name ≡ None) × FailOnlyMissing files es

-- It ends as a call of the program does. In whichever run of the script took the store so, only reads of missing names failed.
pub record DryCall (answer : words.Answer) (status : Status) (mixed : ℕ → ℕ → ℕ → ℕ → ℕ) (files : FileMap) (s t : StoreState)
    (script : List ℕ) (before now : FaultCounts) : Type 0 where
  pub left : List ℕ
  pub ends : EndsCall answer status mixed (Some files) s t (unheard script before) (unheard left now)
  pub missing : (settings : Settings) (trace : List StoreEvent)
      → CarriesOut (around_by settings mixed (Some files)) (bounded_by settings s) t (unheard script before) (unheard left now) trace
      → FailOnlyMissing files trace

-- a dry run by these words of a command line, over files in memory
abbrev pub EndsDry : (ℕ → ℕ → ℕ → ℕ → ℕ) → List (Bor (List ℕ)) → List ℕ → PureFiles → PureFiles → StoreState → StoreState → Status → Type 0
EndsDry mixed given script before now s t status =
    DryCall (words.answer_to (map_list (λ (word : Bor (List ℕ)). word.now) given)) status mixed (pure_files before) s t script (pure_faults before) (pure_faults now)
