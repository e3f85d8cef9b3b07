-- The triples of a query between its braces (SPARQL 1.1, section 19.8, rules 52 and 75 to 88), by productions on lists of
-- parts. A part has its place, by which patterns refer to their subjects, verbs and objects; a pair of brackets is referred
-- to by its opening.
use Rattle.std.specs.Prelude.{◌≡◌, ℕ, Bool, true, false, List, [], ◌∷◌, ◌++◌}

pub data Role : Type 0 where
  -- a label, a number, or a truth value
  Term : Role
  -- an IRI, or a prefixed name
  Name : Role
  Variable : Role
  -- the word `a`
  TypeOf : Role
  Text : Role
  LangTag : Role
  Carets : Role
  Open : Role
  Close : Role
  Stop : Role
  Comma : Role
  Semicolon : Role
  Other : Role

pub record Part : Type 0 where
  pub role : Role
  pub place : ℕ

abbrev pub part : Role → ℕ → Part
part role place = record { role = role; place = place }

-- the places of a subject, a verb and an object
pub record Triple : Type 0 where
  pub s : ℕ
  pub p : ℕ
  pub o : ℕ

abbrev pub triple : ℕ → ℕ → ℕ → Triple
triple s p o = record { s = s; p = p; o = o }

-- what stands for itself as a subject or an object
abbrev pub is_node : Role → Bool
is_node Term = true
is_node Name = true
is_node Variable = true
is_node _ = false

-- Verb ::= Var | IriRef | 'a'
abbrev pub is_verb : Role → Bool
is_verb Name = true
is_verb Variable = true
is_verb TypeOf = true
is_verb _ = false

-- Simple ::= Var | IriRef | Literal | Label | '[' ']', with Literal ::= String (LangTag | '^^' IriRef)? | Number | 'true' | 'false'
pub data IsSimple : ℕ → List Part → Type 0 where
  node : (role : Role) (i : ℕ) → is_node role ≡ true → IsSimple i (part role i ∷ [])
  text : (i : ℕ) → IsSimple i (part Text i ∷ [])
  tagged : (i j : ℕ) → IsSimple i (part Text i ∷ part LangTag j ∷ [])
  typed : (i j k : ℕ) → IsSimple i (part Text i ∷ part Carets j ∷ part Name k ∷ [])
  blank : (i j : ℕ) → IsSimple i (part Open i ∷ part Close j ∷ [])

mutual
  -- Props ::= Verb Objects (';' (Verb Objects)?)*, of a subject
  pub data IsProps : ℕ → List Part → List Triple → Type 0 where
    props : (s v : ℕ) (role : Role) (ts us : List Part) (ps qs : List Triple) → is_verb role ≡ true → IsObjects s v ts ps → IsMore s us qs
        → IsProps s (part role v ∷ (ts ++ us)) (ps ++ qs)

  -- what follows the first objects there
  pub data IsMore : ℕ → List Part → List Triple → Type 0 where
    end : (s : ℕ) → IsMore s [] []
    semicolon : (s i : ℕ) (us : List Part) (qs : List Triple) → IsMore s us qs → IsMore s (part Semicolon i ∷ us) qs
    again : (s i : ℕ) (us : List Part) (qs : List Triple) → IsProps s us qs → IsMore s (part Semicolon i ∷ us) qs

  -- Objects ::= Object (',' Object)*, of a subject and a verb
  pub data IsObjects : ℕ → ℕ → List Part → List Triple → Type 0 where
    last : (s v : ℕ) (ts : List Part) (ps : List Triple) → IsObject s v ts ps → IsObjects s v ts ps
    comma : (s v i : ℕ) (ts us : List Part) (ps qs : List Triple) → IsObject s v ts ps → IsObjects s v us qs
        → IsObjects s v (ts ++ part Comma i ∷ us) (ps ++ qs)

  -- Object ::= Simple | '[' Props ']'; its own triple comes behind those within
  pub data IsObject : ℕ → ℕ → List Part → List Triple → Type 0 where
    simple : (s v i : ℕ) (ts : List Part) → IsSimple i ts → IsObject s v ts (triple s v i ∷ [])
    bracket : (s v i j : ℕ) (ts : List Part) (ps : List Triple) → IsProps i ts ps
        → IsObject s v (part Open i ∷ (ts ++ part Close j ∷ [])) (ps ++ triple s v i ∷ [])

-- Same ::= Simple Props | '[' Props ']' Props?
pub data IsSame : List Part → List Triple → Type 0 where
  simple : (i : ℕ) (ts us : List Part) (ps : List Triple) → IsSimple i ts → IsProps i us ps → IsSame (ts ++ us) ps
  bracket : (i j : ℕ) (ts : List Part) (ps : List Triple) → IsProps i ts ps → IsSame (part Open i ∷ (ts ++ part Close j ∷ [])) ps
  followed : (i j : ℕ) (ts us : List Part) (ps qs : List Triple) → IsProps i ts ps → IsProps i us qs
      → IsSame (part Open i ∷ (ts ++ part Close j ∷ us)) (ps ++ qs)

-- Triples? with Triples ::= Same ('.' Triples?)?
pub data IsBlock : List Part → List Triple → Type 0 where
  nothing : IsBlock [] []
  one : (ts : List Part) (ps : List Triple) → IsSame ts ps → IsBlock ts ps
  more : (i : ℕ) (ts us : List Part) (ps qs : List Triple) → IsSame ts ps → IsBlock us qs → IsBlock (ts ++ part Stop i ∷ us) (ps ++ qs)
