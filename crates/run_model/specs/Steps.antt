-- What one command may do and answer, and a run of commands (docs/SCRIPT.md).
use Rattle.std.specs.Prelude.{◌≡◌, ◌≢◌, ℕ, Bool, List, [], ◌∷◌, Option, Some, None, map}
use Rattle.std.specs.List.{flat_map, list_any}
use Rattle.rdf_model.specs.Terms.{Text}
use Rattle.rdf_model.specs.Dumps.{dump_lines}
use Rattle.rdf_model.specs.Graph.{Graph}
use Rattle.graph_shape.specs.GraphShapes.{figures_of, shape_lines}
use Rattle.script_model.specs.Commands.{Change, Inserts, Triples, Question, OneLine, File, Generate, Dump, Stats, Shape, Command, Block, Single, Bad, Unended, question_of}
use Rattle.run_model.specs.Answers.{Refusal, NoCommand, NoFile, NoMemory, EndInBlock, Answer, Dumped, Counted, Shaped, Refused, answer_text, is_refused}
use Rattle.run_model.specs.Sayings.{sayings, first_refusal, Changes}
use Rattle.run_model.specs.Loads.{generated_sayings, LoadsFile, RefusesFile, FailsAt}
use Rattle.run_model.specs.Questions.{question_refusal, AnswersQuestion}
use Rattle.run_model.specs.Worlds.{Config, World, FailedRead}

-- the refusal of a line that commands something, or none
abbrev pub line_refusal : Config → World → OneLine → Option Refusal
line_refusal cfg W (File change scope name) = None
line_refusal cfg W (Generate count salt) = first_refusal Inserts cfg.most_triples W.graph (generated_sayings count salt)
line_refusal cfg W Dump = None
line_refusal cfg W Stats = None
line_refusal cfg W Shape = None

-- the refusal of a command by its lines, or none; want of memory, and what a read of a file gives, aside
abbrev pub refusal_of : Config → World → Command → Option Refusal
refusal_of cfg W (Block (Triples change) lines) = first_refusal change cfg.most_triples W.graph (sayings [] lines)
refusal_of cfg W (Block Question lines) = question_refusal (question_of lines)
refusal_of cfg W (Single command) = line_refusal cfg W command
refusal_of cfg W Bad = Some NoCommand
refusal_of cfg W Unended = Some EndInBlock

-- what a line that commands something does to a graph, and what it answers
abbrev pub LineDoes : Config → World → OneLine → Graph → Answer → Type 0
LineDoes cfg W (File change scope name) H a = LoadsFile cfg W change scope name H a
LineDoes cfg W (Generate count salt) H a = Changes Inserts W.graph (generated_sayings count salt) H a
LineDoes cfg W Dump H a = (H ≡ W.graph) × (a ≡ Dumped (dump_lines W.graph))
LineDoes cfg W Stats H a = (H ≡ W.graph) × (a ≡ Counted (figures_of W.graph))
LineDoes cfg W Shape H a = (H ≡ W.graph) × (a ≡ Shaped (shape_lines W.graph))

-- what a command that isn't refused does to a graph, and what it answers
abbrev pub Does : Config → World → Command → Graph → Answer → Type 0
Does cfg W (Block (Triples change) lines) H a = Changes change W.graph (sayings [] lines) H a
Does cfg W (Block Question lines) H a = (H ≡ W.graph) × AnswersQuestion cfg.sorted W.graph (question_of lines) a
Does cfg W (Single command) H a = LineDoes cfg W command H a
Does cfg W Bad H a = ⊥
Does cfg W Unended H a = ⊥

-- One command, from the world W to V, with an answer, and with the read that failed, if one did. A refused command changes nothing, and
-- no command changes a file. A file is refused by its bytes, or because a read of it failed before a place of a refusal. Want of memory
-- may refuse each command but a block without end.
pub data Step (cfg : Config) (W : World) : Command → World → Answer → Option FailedRead → Type 0 where
  done : (c : Command) (H : Graph) (a : Answer) → refusal_of cfg W c ≡ None → Does cfg W c H a → Step cfg W c (record W { graph = H }) a None
  refused : (c : Command) (r : Refusal) → refusal_of cfg W c ≡ Some r → Step cfg W c W (Refused r) None
  file_refused : (change : Change) (scope name : Text) (r : Refusal) → RefusesFile cfg W change scope name r
      → Step cfg W (Single (File change scope name)) W (Refused r) None
  file_failed : (change : Change) (scope name : Text) (place : ℕ) → FailsAt cfg W change scope name place
      → Step cfg W (Single (File change scope name)) W (Refused NoFile) (Some (record { name = name; place = place }))
  no_memory : (c : Command) → c ≢ Unended → Step cfg W c W (Refused NoMemory) None

-- one command of a run: what it answered, which read of it failed, and the world that it left
pub record Event : Type 0 where
  pub command : Command
  pub answer : Answer
  pub failed : Option FailedRead
  pub world : World

-- the events of a run from W to V: one command after another, each from the world that the one before it left
abbrev pub Run : Config → World → List Event → World → Type 0
Run cfg W [] V = V ≡ W
Run cfg W (e ∷ es) V = Step cfg W e.command e.world e.answer e.failed × Run cfg e.world es V

-- What is read off a run

abbrev pub commands_in : List Event → List Command
commands_in = map (λ e. e.command)

-- the texts of the answers, one after another
abbrev pub text_of : List Event → Text
text_of = flat_map (λ e. answer_text e.answer)

abbrev pub some_refused : List Event → Bool
some_refused = list_any (λ e. is_refused e.answer)

abbrev pub or_none : Option FailedRead → List FailedRead
or_none None = []
or_none (Some read) = read ∷ []

-- the reads that failed, in order
abbrev pub failed_reads : List Event → List FailedRead
failed_reads = flat_map (λ e. or_none e.failed)
