-- What the lines of a block or a file say, and why they can't be carried out (docs/SCRIPT.md, "Refusals").
use Rattle.std.specs.Prelude.{◌≡◌, ◌↔◌, ℕ, ◌+◌, ◌<◌, Bool, false, nat_lt, List, [], ◌∷◌, ◌++◌, length, map, Option, Some, None, if◌then◌else◌}
use Rattle.std.specs.List.{flat_map}
use Rattle.std.specs.Option.{option_or}
use Rattle.std.specs.FinSet as set
use Rattle.rdf_model.specs.Terms.{Text, Triple}
use Rattle.rdf_model.specs.Graph.{Graph, with_all, without_all, added, gone}
use Rattle.text_lines.specs.Lines.{Line}
use Rattle.ntriples_model.specs.Line.{said}
use Rattle.script_model.specs.Commands.{Change, Inserts, Deletes}
use Rattle.run_model.specs.Answers.{Refusal, BadLine, FullAt, New, Gone, Answer, Done}

-- What a line says: none where it is no line of N-Triples, else a triple or nothing.
abbrev pub Saying : Type 0
Saying = Option (Option Triple)

-- what a line says under a scope; one that is too long is no line
abbrev pub says : Text → Line → Saying
says scope None = None
says scope (Some line) = said scope line

abbrev pub sayings : Text → List Line → List Saying
sayings scope lines = map (says scope) lines

abbrev pub triples_said : Saying → List Triple
triples_said None = []
triples_said (Some None) = []
triples_said (Some (Some triple)) = triple ∷ []

-- the triples that are said, in order
abbrev pub triples_of : List Saying → List Triple
triples_of = flat_map triples_said

-- what lines that can be carried out change in a graph G, and the answer
abbrev pub Changes : Change → Graph → List Saying → Graph → Answer → Type 0
Changes Inserts G said H a = let B = triples_of said in (H ≡ with_all G B) × (a ≡ Done (New (added G B) (set.len H)))
Changes Deletes G said H a = let B = triples_of said in (H ≡ without_all G B) × (a ≡ Done (Gone (gone G B) (set.len H)))

-- By places

-- The graph and the triples that are said are together more than it may have. What is taken away needs no place.
abbrev pub IsOver : Change → ℕ → Graph → List Saying → Type 0
IsOver Inserts most G sayings = most < set.len (with_all G (triples_of sayings))
IsOver Deletes most G sayings = ⊥

-- Why a line that says this can't be carried out behind a front of lines: it is no line, or the graph is full. Its number is one more
-- than the front's length.
pub data IsRefused (change : Change) (most : ℕ) (G : Graph) (front : List Saying) : Saying → Refusal → Type 0 where
  bad : IsRefused change most G front None (BadLine (length front + 1))
  full : (said : Option Triple) → IsOver change most G (front ++ Some said ∷ []) → IsRefused change most G front (Some said) (FullAt (length front + 1))

-- No line of a front is refused.
abbrev pub AreGood : Change → ℕ → Graph → List Saying → Type 0
AreGood change most G sayings = (front behind : List Saying) (saying : Saying) (refusal : Refusal) → sayings ≡ front ++ saying ∷ behind → IsRefused change most G front saying refusal → ⊥

-- The first line that can't be carried out, behind a front of lines that can.
pub record IsFirstRefused (change : Change) (most : ℕ) (G : Graph) (sayings : List Saying) (refusal : Refusal) : Type 0 where
  pub front : List Saying
  pub saying : Saying
  pub behind : List Saying
  pub are : sayings ≡ front ++ saying ∷ behind
  pub good : AreGood change most G front
  pub refused : IsRefused change most G front saying refusal

-- From the front

abbrev pub is_over : Change → ℕ → Graph → List Triple → Bool
is_over Inserts most G B = nat_lt most (set.len (with_all G B))
is_over Deletes most G B = false

-- Why line `number` can't be carried out, if it can't. `B` are the triples of the lines before it.
abbrev pub refusal_at : Change → ℕ → Graph → List Triple → ℕ → Saying → Option Refusal
refusal_at change most G B number None = Some (BadLine number)
refusal_at change most G B number (Some said) = if is_over change most G (B ++ triples_said (Some said)) then Some (FullAt number) else None

-- the refusal by the first line that can't be carried out, where the lines are counted from k on
abbrev pub refusal_from : Change → ℕ → Graph → List Triple → ℕ → List Saying → Option Refusal
refusal_from change most G B k [] = None
refusal_from change most G B k (s ∷ ss) = option_or (refusal_at change most G B k s) (refusal_from change most G (B ++ triples_said s) (k + 1) ss)

abbrev pub first_refusal : Change → ℕ → Graph → List Saying → Option Refusal
first_refusal change most G = refusal_from change most G [] 1

-- The refusal from the front is that of the first line that can't be carried out.
abbrev pub FirstRefusalIsByPlace : Type 0
FirstRefusalIsByPlace = (change : Change) (most : ℕ) (G : Graph) (sayings : List Saying) (refusal : Refusal)
    → IsFirstRefused change most G sayings refusal ↔ (first_refusal change most G sayings ≡ Some refusal)
