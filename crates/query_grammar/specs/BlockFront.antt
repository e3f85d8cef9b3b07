-- The triples of a query from the front of its parts.
use Rattle.std.specs.Prelude.{ℕ, Bool, true, false, cond, List, [], ◌∷◌, ◌++◌, Option, Some, None}
use Rattle.query_grammar.specs.Block.{Role, Name, Text, LangTag, Carets, Open, Close, Stop, Comma, Semicolon, Part, Triple, triple, is_node, is_verb}

-- what an open pair of brackets is: the subject that begins a statement, or an object of a subject and a verb
pub data Frame : Type 0 where
  Subject : ℕ → Frame
  Object : ℕ → ℕ → ℕ → Frame

-- what may come next
pub data Expect : Type 0 where
  -- a statement, or nothing more
  Statement : Expect
  -- what stands in the pair of brackets that was opened
  Bracket : ℕ → Expect
  -- a verb of the subject
  Verb : ℕ → Expect
  -- the same, or what belongs to the text that is the subject
  TextSubject : ℕ → Expect
  DatatypeSubject : ℕ → Expect
  -- an object of the subject and the verb
  ObjectOf : ℕ → ℕ → Expect
  -- what follows an object
  Behind : ℕ → ℕ → Expect
  -- the same, or what belongs to the text that is the object
  TextObject : ℕ → ℕ → Expect
  DatatypeObject : ℕ → ℕ → Expect
  -- what follows a semicolon
  Semi : ℕ → Expect
  -- what follows the brackets that are a subject
  BehindSubject : ℕ → Expect

-- what is expected next, the open brackets from the inner to the outer, and the triple that has ended, if one has
pub record Next : Type 0 where
  pub expect : Expect
  pub stack : List Frame
  pub ended : List Triple

abbrev pub next : Expect → List Frame → Option Next
next expect stack = Some (record { expect = expect; stack = stack; ended = [] })

-- an object at a place: its triple has ended
abbrev pub ends : Expect → List Frame → ℕ → ℕ → ℕ → Option Next
ends expect stack s v i = Some (record { expect = expect; stack = stack; ended = triple s v i ∷ [] })

-- a verb of the subject, or none
abbrev pub verb_step : ℕ → List Frame → Role → ℕ → Option Next → Option Next
verb_step s stack role i others = cond (is_verb role) (next (ObjectOf s i) stack) others

-- what ends the properties of a subject
abbrev pub close_step : List Frame → Role → Option Next
close_step [] Stop = next Statement []
close_step (Subject i ∷ stack) Close = next (BehindSubject i) stack
close_step (Object s v i ∷ stack) Close = ends (Behind s v) stack s v i
close_step _ _ = None

abbrev pub behind_step : ℕ → ℕ → List Frame → Role → Option Next
behind_step s v stack Comma = next (ObjectOf s v) stack
behind_step s v stack Semicolon = next (Semi s) stack
behind_step s v stack role = close_step stack role

-- an empty pair of brackets
abbrev pub blank_step : List Frame → Option Next
blank_step [] = None
blank_step (Subject i ∷ stack) = next (Verb i) stack
blank_step (Object s v i ∷ stack) = ends (Behind s v) stack s v i

abbrev pub semi_step : ℕ → List Frame → Role → Option Next
semi_step s stack Semicolon = next (Semi s) stack
semi_step s stack role = close_step stack role

abbrev pub step : Expect → List Frame → Role → ℕ → Option Next
step Statement stack Text i = next (TextSubject i) stack
step Statement stack Open i = next (Bracket i) (Subject i ∷ stack)
step Statement stack role i = cond (is_node role) (next (Verb i) stack) None
step (Bracket s) stack Close i = blank_step stack
step (Bracket s) stack role i = verb_step s stack role i None
step (Verb s) stack role i = verb_step s stack role i None
step (TextSubject s) stack LangTag i = next (Verb s) stack
step (TextSubject s) stack Carets i = next (DatatypeSubject s) stack
step (TextSubject s) stack role i = verb_step s stack role i None
step (DatatypeSubject s) stack Name i = next (Verb s) stack
step (DatatypeSubject s) stack _ i = None
step (ObjectOf s v) stack Text i = ends (TextObject s v) stack s v i
step (ObjectOf s v) stack Open i = next (Bracket i) (Object s v i ∷ stack)
step (ObjectOf s v) stack role i = cond (is_node role) (ends (Behind s v) stack s v i) None
step (Behind s v) stack role i = behind_step s v stack role
step (TextObject s v) stack LangTag i = next (Behind s v) stack
step (TextObject s v) stack Carets i = next (DatatypeObject s v) stack
step (TextObject s v) stack role i = behind_step s v stack role
step (DatatypeObject s v) stack Name i = next (Behind s v) stack
step (DatatypeObject s v) stack _ i = None
step (Semi s) stack role i = verb_step s stack role i (semi_step s stack role)
step (BehindSubject s) stack role i = verb_step s stack role i (close_step stack role)

-- nothing more need come
abbrev pub may_end : Expect → List Frame → Bool
may_end expect (frame ∷ stack) = false
may_end Statement [] = true
may_end (Behind s v) [] = true
may_end (TextObject s v) [] = true
may_end (Semi s) [] = true
may_end (BehindSubject s) [] = true
may_end _ [] = false

abbrev pub with_ended : List Triple → Option (List Triple) → Option (List Triple)
with_ended ended None = None
with_ended ended (Some more) = Some (ended ++ more)

-- the triples of the parts that are to come
abbrev pub triples_from : Expect → List Frame → List Part → Option (List Triple)
triples_from expect stack [] = cond (may_end expect stack) (Some []) None
triples_from expect stack (t ∷ ts) =
    elim (step expect stack t.role t.place) [
      | None ↦ None
      | Some n ↦ with_ended n.ended (triples_from n.expect n.stack ts)
    ]

-- the triples of a block
unfoldable pub triples_of : List Part → Option (List Triple)
triples_of ts = triples_from Statement [] ts
