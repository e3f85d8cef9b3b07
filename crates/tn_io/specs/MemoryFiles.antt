-- What files over memory hold, how often their reads failed, and which of their calls fail.
use Rattle.std.specs.Prelude.{◌≡◌, ◌⊎◌, ℕ, List, Option, Some, None}
use Rattle.std.specs.FinMap as map
use Rattle.std.specs.List.{Contains}
use Rattle.std.specs.Option.{IsSome}
use Rattle.file_model.specs.FileMap.{FileMap, files_of}
use Rattle.tn_io.specs.FileFaults.{FaultCounts}
use Rattle.tn_io.specs.declared.memory_files.MemFiles.{MemFiles}
use Rattle.tn_io.specs.declared.memory_files.PureFiles.{PureFiles}

abbrev pub mem_files : MemFiles → FileMap
mem_files s = files_of s.files.items

abbrev pub mem_faults : MemFiles → ℕ
mem_faults s = s.faults

-- the numbers of the calls that fail, from 1
abbrev pub mem_fails : MemFiles → List ℕ
mem_fails s = s.fails.items

abbrev pub mem_calls : MemFiles → ℕ
mem_calls s = s.calls

abbrev pub mem_piece : MemFiles → ℕ
mem_piece s = s.piece

-- the call of this number is one of those that fail, or the name is that of no file
abbrev pub IsToFail : MemFiles → ℕ → List ℕ → Type 0
IsToFail s call name = Contains (mem_fails s) call ⊎ (map.get (mem_files s) name ≡ None)

abbrev pub pure_files : PureFiles → FileMap
pure_files s = files_of s.files.items

-- none for a file, and for a name that is no file how often such reads failed
abbrev pub missing_count : Option (List ℕ) → ℕ → ℕ
missing_count (Some bytes) missing = 0
missing_count None missing = missing

abbrev pub pure_faults : PureFiles → FaultCounts
pure_faults s name at = missing_count (map.get (pure_files s) name) s.missing

-- no read of a file has failed
abbrev pub NoFileFailed : PureFiles → Type 0
NoFileFailed s = (name : List ℕ) → (at : ℕ) → IsSome (map.get (pure_files s) name) → pure_faults s name at ≡ 0
