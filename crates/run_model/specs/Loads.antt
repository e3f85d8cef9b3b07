-- What the lines of a file and generated triples say, and why a file can't be loaded or unloaded (docs/SCRIPT.md, "Refusals").
use Rattle.std.specs.Prelude.{◌≡◌, ℕ, ◌≤◌, List, length, map, Option, Some, None}
use Rattle.std.specs.Option.{option_or}
use Rattle.file_model.specs.FileMap.{FileMap, OfFile, IfFile}
use Rattle.file_model.specs.FileLines.{FileText, All, Long, file_lines, BeginsWith}
use Rattle.text_lines.specs.Lines.{lines_of, whole_lines_of}
use Rattle.rdf_model.specs.Terms.{Text, Triple}
use Rattle.rdf_model.specs.Graph.{Graph}
use Rattle.generated_model.specs.Generated.{generated}
use Rattle.script_model.specs.Commands.{Change}
use Rattle.run_model.specs.Answers.{Refusal, IsLong, Answer}
use Rattle.run_model.specs.Sayings.{Saying, sayings, first_refusal, Changes}
use Rattle.run_model.specs.Worlds.{Config, World}

-- a line that says a triple
abbrev pub saying_of : Triple → Saying
saying_of triple = Some (Some triple)

-- the generated triples, as lines
abbrev pub generated_sayings : ℕ → ℕ → List Saying
generated_sayings count salt = map saying_of (generated count salt)

-- The refusal of what is found in a file: that of its first line that can't be carried out, and where the file is too long,
-- that, behind the lines that are whole before the first byte too many.
abbrev pub text_refusal : Change → ℕ → Graph → Text → FileText → Option Refusal
text_refusal change most G scope (All lines) = first_refusal change most G (sayings scope lines)
text_refusal change most G scope (Long before) = option_or (first_refusal change most G (sayings scope before)) (Some IsLong)

abbrev pub file_refusal : Config → Graph → Change → Text → List ℕ → Option Refusal
file_refusal cfg G change scope bytes = text_refusal change cfg.most_triples G scope (file_lines cfg.most_bytes bytes)

-- No refusal stands in the first bytes of a file: they are no more than it may have, and no line that ends in them is refused.
pub record ShowsNoRefusal (cfg : Config) (G : Graph) (change : Change) (scope : Text) (front : List ℕ) : Type 0 where
  pub within : length front ≤ cfg.most_bytes
  pub good : first_refusal change cfg.most_triples G (sayings scope (whole_lines_of front)) ≡ None

-- the file has these bytes, where the files are told
abbrev pub HasBytes : Option FileMap → Text → List ℕ → Type 0
HasBytes files name bytes = OfFile files name (λ own. own ≡ bytes)

-- A file was read to its end, and its triples change the graph.
pub record LoadsFile (cfg : Config) (W : World) (change : Change) (scope name : Text) (H : Graph) (a : Answer) : Type 0 where
  pub bytes : List ℕ
  pub there : HasBytes W.files name bytes
  pub good : file_refusal cfg W.graph change scope bytes ≡ None
  pub changes : Changes change W.graph (sayings scope (lines_of bytes)) H a

-- A file can't be carried out, by its bytes.
pub record RefusesFile (cfg : Config) (W : World) (change : Change) (scope name : Text) (refusal : Refusal) : Type 0 where
  pub bytes : List ℕ
  pub there : HasBytes W.files name bytes
  pub refused : file_refusal cfg W.graph change scope bytes ≡ Some refusal

-- A read of a file failed at a place, before which no refusal stands.
pub record FailsAt (cfg : Config) (W : World) (change : Change) (scope name : Text) (place : ℕ) : Type 0 where
  pub front : List ℕ
  pub behind : length front ≡ place
  pub begins : IfFile W.files name (BeginsWith front)
  pub good : ShowsNoRefusal cfg W.graph change scope front
