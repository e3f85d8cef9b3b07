-- What is known of the lines of a batch, and of the store in which their triples are staged or marked.
use Rattle.std.specs.Prelude.{◌≡◌, ◌⊎◌, ℕ, ◌+◌, ◌≤◌, true, List, [], ◌∷◌, ◌++◌, length, Option, Some, None, MatchOption}
use Rattle.std.specs.Borrow.{Bor}
use Rattle.std.specs.FinSet as set
use Rattle.hypertrie_model.specs.IdSets.{IdSet}
use Rattle.rdf_model.specs.Terms.{Text}
use Rattle.rdf_model.specs.Graph.{Graph}
use Rattle.ntriples_model.specs.Proper.{IsScope, IsProperTriple}
use Rattle.rdf_term.specs.Seen.{lent_triple, lent_triples}
use Rattle.rdf_term.specs.declared.term.TripleRef.{TripleRef}
use Rattle.text_lines.specs.Lines.{Line}
use Rattle.script_model.specs.Commands as script
use Rattle.run_model.specs.Answers as answers
use Rattle.run_model.specs.Answers.{is_refused}
use Rattle.run_model.specs.Sayings.{Saying, triples_of, first_refusal, Changes}
use Rattle.run_model.specs.Loads.{generated_sayings, saying_of}
use Rattle.graph_store.specs.StoreState.{StoreState, graph, IsSettled}
use Rattle.graph_store.specs.Staging.{Staging, staged_graph, Fits, before, AreMarked, marked_graph}
use Rattle.answer_text.specs.declared.Refusal.{Refusal}
use Rattle.answer_text.specs.declared.Refusal.TheVariants as cause
use Rattle.line_batch.specs.Sound.{IsBetweenCommands}
use Rattle.line_batch.specs.declared.batch.Batch.{Batch}
use Rattle.line_batch.specs.declared.batch.Batch.TheVariants.{Inserts, Deletes, Refused}

-- a line that was told: none where it is too long
abbrev pub lent_line : Option (Bor (List ℕ)) → Line
lent_line None = None
lent_line (Some line) = Some line.now

-- the lines of a block and of a file may be read under it: no scope, or the letters and digits of one
pub record MayBeScope (scope : Text) : Type 0 where
  pub short : length scope ≤ 64
  pub letters : IsScope scope

-- what was read of a line: none where it is no line of N-Triples
abbrev pub lent_saying : Option (Option TripleRef) → Saying
lent_saying None = None
lent_saying (Some read) = Some (lent_triples read)

-- what a line with the triple says
abbrev pub triple_said : TripleRef → Saying
triple_said triple = saying_of (lent_triple triple)

-- a triple that is said is a proper one
abbrev pub IsProperSaying : Saying → Type 0
IsProperSaying None = Unit {0}
IsProperSaying (Some None) = Unit {0}
IsProperSaying (Some (Some triple)) = IsProperTriple triple

-- What lines change in a graph that may have so many triples, and the answer: all of them, or nothing with a refusal.
pub data ChangesBy (most : ℕ) (change : script.Change) (said : List Saying) (G : Graph) : Graph → answers.Answer → Type 0 where
  done : (H : Graph) (a : answers.Answer) → first_refusal change most G said ≡ None → Changes change G said H a → ChangesBy most change said G H a
  refused : (r : answers.Refusal) → first_refusal change most G said ≡ Some r → ChangesBy most change said G G (answers.Refused r)
  no_memory : ChangesBy most change said G G (answers.Refused answers.NoMemory)

-- The lines took the store from s to t.
pub record ChangesStore (mixed : ℕ → ℕ → ℕ → ℕ → ℕ) (s : StoreState) (change : script.Change) (said : List Saying) (t : StoreState) (a : answers.Answer) : Type 0 where
  pub changes : ChangesBy s.max change said (graph s) (graph t) a
  pub refused : is_refused a ≡ true → t ≡ s
  pub sound : IsBetweenCommands mixed t
  pub max : t.max ≡ s.max

-- the refusal of these lines over the store s
abbrev pub batch_refusal : StoreState → script.Change → List Saying → Option answers.Refusal
batch_refusal s change said = first_refusal change s.max (graph s) said

-- why the lines are refused
abbrev pub IsCause : StoreState → script.Change → List Saying → Refusal → Type 0
IsCause s change said (cause.Line number) = batch_refusal s change said ≡ Some (answers.BadLine number)
IsCause s change said (cause.Full number) = batch_refusal s change said ≡ Some (answers.FullAt number)
IsCause s change said cause.Memory = Unit {0}
IsCause s change said cause.Command = ⊥
IsCause s change said cause.Query = ⊥
IsCause s change said cause.File = ⊥
IsCause s change said cause.Long = ⊥
IsCause s change said cause.Prefix = ⊥
IsCause s change said cause.Size = ⊥
IsCause s change said cause.Unended = ⊥

-- The triples of the lines that the graph lacks are staged in the store, which was s before the batch.
pub record AreStaged (s : StoreState) (said : List Saying) (now : StoreState) (staged : Staging) : Type 0 where
  pub fits : Fits now staged
  pub start : before now staged ≡ s
  pub same : graph now ≡ graph s
  pub triples : staged_graph now staged ≡ set.difference (set.from_list (triples_of said)) (graph s)
  pub good : batch_refusal s script.Inserts said ≡ None
  pub within : (set.len (staged_graph now staged) ≡ 0) ⊎ (set.len (graph s) + set.len (staged_graph now staged) ≤ s.max)

-- The triples of the lines that the graph has are marked in the store s.
pub record AreToGo (s : StoreState) (said : List Saying) (taken : IdSet) : Type 0 where
  pub there : AreMarked s taken
  pub triples : marked_graph s taken ≡ set.intersection (set.from_list (triples_of said)) (graph s)
  pub good : batch_refusal s script.Deletes said ≡ None

-- what is known of the lines of a batch over the store s, which is `now` while they are staged or marked
abbrev pub IsBatch : StoreState → script.Change → List Saying → StoreState → Batch → Type 0
IsBatch s script.Inserts said now (Inserts staged) = AreStaged s said now staged
IsBatch s script.Deletes said now (Inserts staged) = ⊥
IsBatch s script.Inserts said now (Deletes taken) = ⊥
IsBatch s script.Deletes said now (Deletes taken) = (now ≡ s) × AreToGo s said taken
IsBatch s change said now (Refused cause) = (now ≡ s) × IsCause s change said cause

-- no line of the batch was refused
abbrev pub IsGoing : Batch → Type 0
IsGoing (Inserts staged) = Unit {0}
IsGoing (Deletes taken) = Unit {0}
IsGoing (Refused cause) = ⊥

-- a batch over the store without a line yet
abbrev pub IsNone : StoreState → script.Change → Batch → Type 0
IsNone s change batch = IsBatch s change [] s batch × IsGoing batch

-- the store can carry the batch out
abbrev pub IsReady : StoreState → Batch → Type 0
IsReady now (Inserts staged) = Fits now staged
IsReady now (Deletes taken) = IsSettled now × AreMarked now taken
IsReady now (Refused cause) = Unit {0}

-- One more line that says this, of this number, is among the staged ones, or there is a cause why it can't be.
abbrev pub StagesOneMore : ℕ → Saying → StoreState → Staging → StoreState → Staging → Option Refusal → Type 0
StagesOneMore number saying old staged now more why =
    (s : StoreState) (said : List Saying) → number ≡ length said + 1 → AreStaged s said old staged
    → MatchOption why (AreStaged s (said ++ saying ∷ []) now more) (IsCause s script.Inserts (said ++ saying ∷ []))

-- One more line that says this, of this number, is among the marked ones, or there is a cause why it can't be.
abbrev pub MarksOneMore : ℕ → Saying → StoreState → IdSet → IdSet → Option Refusal → Type 0
MarksOneMore number saying s taken more why =
    (said : List Saying) → number ≡ length said + 1 → AreToGo s said taken
    → MatchOption why (AreToGo s (said ++ saying ∷ []) more) (IsCause s script.Deletes (said ++ saying ∷ []))

-- A batch over a store has become another by one more line, which says this and has this number.
abbrev pub HasOneMore : ℕ → Saying → StoreState → Batch → StoreState → Batch → Type 0
HasOneMore number saying old batch now next =
    (s : StoreState) (change : script.Change) (said : List Saying) → number ≡ length said + 1 → IsBatch s change said old batch
    → IsBatch s change (said ++ saying ∷ []) now next

-- Its lines took the store that the batch was begun over to this one.
abbrev pub CarriesOut : (ℕ → ℕ → ℕ → ℕ → ℕ) → StoreState → Batch → StoreState → answers.Answer → Type 0
CarriesOut mixed now batch t a = (s : StoreState) (change : script.Change) (said : List Saying) → IsBetweenCommands mixed s → IsBatch s change said now batch → ChangesStore mixed s change said t a

-- the staged triples were put in
abbrev pub PutsIn : (ℕ → ℕ → ℕ → ℕ → ℕ) → StoreState → Staging → StoreState → answers.Answer → Type 0
PutsIn mixed now staged t a = (s : StoreState) (said : List Saying) → IsBetweenCommands mixed s → AreStaged s said now staged → ChangesStore mixed s script.Inserts said t a

-- the marked triples were taken out
abbrev pub TakesOut : (ℕ → ℕ → ℕ → ℕ → ℕ) → StoreState → IdSet → StoreState → answers.Answer → Type 0
TakesOut mixed s taken t a = (said : List Saying) → IsBetweenCommands mixed s → AreToGo s said taken → ChangesStore mixed s script.Deletes said t a

-- the store is the one that the batch was begun over
abbrev pub GoesBack : StoreState → Batch → StoreState → Type 0
GoesBack now batch t = (s : StoreState) (change : script.Change) (said : List Saying) → IsBatch s change said now batch → t ≡ s

-- the generated triples were put in, as lines that say them
abbrev pub Generates : (ℕ → ℕ → ℕ → ℕ → ℕ) → ℕ → ℕ → StoreState → StoreState → answers.Answer → Type 0
Generates mixed count salt s t a = IsBetweenCommands mixed s → ChangesStore mixed s script.Inserts (generated_sayings count salt) t a
