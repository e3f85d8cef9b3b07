-- What is known of the lines of a query's block, and what its answer writes.
use Rattle.std.specs.Prelude.{◌≡◌, ℕ, Bool, false, List, [], ◌∷◌, ◌++◌, Option, Some, None, Result}
use Rattle.rdf_model.specs.Terms.{Term}
use Rattle.text_lines.specs.Lines.{Line}
use Rattle.script_model.specs.Commands as script
use Rattle.script_model.specs.Commands.{question_of}
use Rattle.query_grammar.specs.Meaning as meaning
use Rattle.query_grammar.specs.Meaning.{Column}
use Rattle.bag_model.specs.Listings.{Listing, MayGive}
use Rattle.solution_model.specs.Rows.{Row}
use Rattle.run_model.specs.Answers as model
use Rattle.run_model.specs.Answers.{answer_text, Listed}
use Rattle.run_model.specs.Questions.{fault_refusal}
use Rattle.graph_store.specs.StoreState.{StoreState}
use Rattle.answer_text.specs.declared.Refusal.{Refusal}
use Rattle.answer_text.specs.declared.Refusal.TheVariants as cause
use Rattle.answer_text.specs.Seen.{refusal_of}
use Rattle.tn_io.specs.declared.out.Out.{Out}
use Rattle.tn_io.specs.declared.outside.Failed.{Failed}
use Rattle.tentris_core.specs.declared.question.Question.{Question}
use Rattle.tentris_core.specs.declared.question.Question.TheVariants.{Text, Refused}
use Rattle.tentris_core.specs.declared.outcome.Outcome.{Outcome}
use Rattle.tentris_core.specs.Puts.{PassesOn, WritesAnswer}
use Rattle.line_batch.specs.Carrying.{Around, Carries}
use Rattle.line_batch.specs.Sound.{IsBetweenCommands}

-- what the lines of the block say so far: their text, or that it is too long
abbrev pub IsGathered : List Line → Question → Type 0
IsGathered body (Text text) = question_of body ≡ Some text.items
IsGathered body (Refused cause.Long) = question_of body ≡ None
IsGathered body (Refused cause.Memory) = Unit {0}
IsGathered body (Refused other) = ⊥

-- the refusal is that of the first fault, or memory ran out
abbrev pub IsFault : meaning.Answer → Refusal → Type 0
IsFault answer cause.Memory = Unit {0}
IsFault answer other = fault_refusal answer ≡ Some (refusal_of other)

-- A query of these lines was answered over the store s, which it leaves as it was.
pub record AnswersQuestion (A : Around) (body : List Line) (s : StoreState) (before now : Option (List ℕ)) (outcome : Outcome) : Type 0 where
  pub answer : model.Answer
  pub carries : Carries A s (script.Block script.Question body) s answer None
  pub writes : WritesAnswer before now outcome answer

-- Rows that the listing may give were passed on whole as an answer, or a front of it and then a fault.
pub record PassesAnswer {K : Type 0} (written : K → Option (List ℕ)) (faults : K → ℕ) (old new : Out K) (result : Result (Unit {0}) Failed) (columns : List Column) (s : Listing Term) : Type 0 where
  pub rows : List Row
  pub given : MayGive s rows
  pub passes : PassesOn written faults old new result (answer_text (Listed columns rows))

-- the lines of the block and one more, where the first ones have this text
abbrev pub GathersBehind : List ℕ → Line → Question → Type 0
GathersBehind text line question = (body : List Line) → question_of body ≡ Some text → IsGathered (body ++ line ∷ []) question

-- the query of a block whose lines were gathered so was answered, where rows are sorted or not
abbrev pub AnswersGathered : {K : Type 0} → Bool → Question → StoreState → (K → Option (List ℕ)) → Out K → Out K → Outcome → Type 0
AnswersGathered sorted question s written old new outcome =
    (A : Around) (body : List Line) → A.sorted ≡ sorted → IsBetweenCommands A.mixed s → IsGathered body question → AnswersQuestion A body s (written old.sink.now) (written new.sink.now) outcome

-- the query of this text was
abbrev pub AnswersText : {K : Type 0} → Bool → List ℕ → StoreState → (K → Option (List ℕ)) → Out K → Out K → Outcome → Type 0
AnswersText sorted text s written old new outcome =
    (A : Around) (body : List Line) → A.sorted ≡ sorted → IsBetweenCommands A.mixed s → question_of body ≡ Some text → AnswersQuestion A body s (written old.sink.now) (written new.sink.now) outcome

-- the query was, its rows in any order
abbrev pub Lists : {K : Type 0} → meaning.Query → StoreState → (K → Option (List ℕ)) → Out K → Out K → Outcome → Type 0
Lists query s written old new outcome =
    (A : Around) (body : List Line) (text : List ℕ) → A.sorted ≡ false → IsBetweenCommands A.mixed s → question_of body ≡ Some text → meaning.query_of text ≡ meaning.IsQuery query
    → AnswersQuestion A body s (written old.sink.now) (written new.sink.now) outcome

-- the query was, its rows sorted, which is right wherever any order is
abbrev pub Sorts : {K : Type 0} → meaning.Query → StoreState → (K → Option (List ℕ)) → Out K → Out K → Outcome → Type 0
Sorts query s written old new outcome =
    (A : Around) (body : List Line) (text : List ℕ) → IsBetweenCommands A.mixed s → question_of body ≡ Some text → meaning.query_of text ≡ meaning.IsQuery query
    → AnswersQuestion A body s (written old.sink.now) (written new.sink.now) outcome
