-- The variables and the blank nodes of a query (SPARQL 1.1, sections 4.1.3 and 4.1.4), each at its first appearance.
use Rattle.std.specs.Prelude.{◌≡◌, ℕ, ◌+◌, List, [], ◌∷◌, ◌++◌, Contains}
use Rattle.query_grammar.specs.Lexemes.{Lexeme}
use Rattle.query_grammar.specs.Meaning.{Name, VariableName, LabelName, Fresh}
use Rattle.query_grammar.specs.Signs.{Variable, Label, Open, sign_of}
use Rattle.query_grammar.specs.Texts.{behind_first}

-- The token at a place names a variable, by what stands behind its mark, or a blank node, by its label or by a bracket.
pub data IsName : ℕ → Lexeme → Name → Type 0 where
  variable : (i : ℕ) (l : Lexeme) → sign_of l ≡ Variable → IsName i l (VariableName (behind_first 1 l.text))
  label : (i : ℕ) (l : Lexeme) → sign_of l ≡ Label → IsName i l (LabelName (behind_first 2 l.text))
  bracket : (i : ℕ) (l : Lexeme) → sign_of l ≡ Open → IsName i l (Fresh i)

abbrev pub IsVariable : ℕ → Lexeme → Name → Type 0
IsVariable i l name = (sign_of l ≡ Variable) × IsName i l name

-- the names of tokens in their order, where the first token has this place
pub data Mentions (Is : ℕ → Lexeme → Name → Type 0) : ℕ → List Lexeme → List Name → Type 0 where
  nothing : (i : ℕ) → Mentions Is i [] []
  name : (i : ℕ) (l : Lexeme) (name : Name) (ls : List Lexeme) (names : List Name) → Is i l name
      → Mentions Is (i + 1) ls names
      → Mentions Is i (l ∷ ls) (name ∷ names)
  other : (i : ℕ) (l : Lexeme) (ls : List Lexeme) (names : List Name) → ((name : Name) → Is i l name → ⊥)
      → Mentions Is (i + 1) ls names
      → Mentions Is i (l ∷ ls) names

-- each name once, at its first appearance
pub data IsEachOnce : List Name → List Name → Type 0 where
  nothing : IsEachOnce [] []
  new : (all once : List Name) (name : Name) → IsEachOnce all once → (Contains once name → ⊥)
      → IsEachOnce (all ++ name ∷ []) (once ++ name ∷ [])
  again : (all once : List Name) (name : Name) → IsEachOnce all once → Contains once name
      → IsEachOnce (all ++ name ∷ []) once

-- the names of tokens, each at its first appearance
pub record AreNames (Is : ℕ → Lexeme → Name → Type 0) (i : ℕ) (ls : List Lexeme) (names : List Name) : Type 0 where
  pub all : List Name
  pub mentions : Mentions Is i ls all
  pub once : IsEachOnce all names
