-- A query up to its pattern (SPARQL 1.1, sections 15.3 and 16.1; section 19.8, rules 4, 6, 9 and 17), and its columns.
use Rattle.std.specs.Prelude.{◌≡◌, ℕ, Bool, true, false, List, [], ◌∷◌, ◌++◌, Some, None, slice_get, Contains}
use Rattle.std.specs.List.{AllByRecursion}
use Rattle.query_grammar.specs.Lexemes.{Lexeme}
use Rattle.query_grammar.specs.Meaning.{Name, VariableName, Column}
use Rattle.query_grammar.specs.Signs.{Select, Distinct, Reduced, Where, Variable, OpenBrace, Star, sign_of}
use Rattle.query_forms.specs.Naming.{IsVariable, AreNames}
use Rattle.query_forms.specs.Prologues.{Declaration, IsPrologue}

-- ('DISTINCT' | 'REDUCED')?, and whether each row is wanted once
pub data IsModifier : List Lexeme → Bool → Type 0 where
  nothing : IsModifier [] false
  distinct : (l : Lexeme) → sign_of l ≡ Distinct → IsModifier (l ∷ []) true
  reduced : (l : Lexeme) → sign_of l ≡ Reduced → IsModifier (l ∷ []) false

-- Var+ | '*', and the variables that are selected: those that stand there, or all of the block, each once
pub data IsSelection (block : List Lexeme) : List Lexeme → List Name → Type 0 where
  variables : (l : Lexeme) (ls : List Lexeme) (names : List Name) → AllByRecursion (λ k. sign_of k ≡ Variable) (l ∷ ls)
      → AreNames IsVariable 0 (l ∷ ls) names → IsSelection block (l ∷ ls) names
  star : (l : Lexeme) (names : List Name) → sign_of l ≡ Star → AreNames IsVariable 0 block names
      → IsSelection block (l ∷ []) names

-- 'WHERE'?
pub data IsWhere : List Lexeme → Type 0 where
  nothing : IsWhere []
  word : (l : Lexeme) → sign_of l ≡ Where → IsWhere (l ∷ [])

-- Prologue 'SELECT' ('DISTINCT' | 'REDUCED')? (Var+ | '*') 'WHERE'? '{', and the variables that are selected
pub record IsHead (block ls : List Lexeme) (ds : List Declaration) (distinct : Bool) (names : List Name) : Type 0 where
  pub prologue : List Lexeme
  pub select : Lexeme
  pub modifier : List Lexeme
  pub selection : List Lexeme
  pub where_word : List Lexeme
  pub brace : Lexeme
  pub are : ls ≡ prologue ++ select ∷ (modifier ++ (selection ++ (where_word ++ brace ∷ [])))
  pub is_prologue : IsPrologue prologue ds
  pub is_select : sign_of select ≡ Select
  pub is_modifier : IsModifier modifier distinct
  pub is_selection : IsSelection block selection names
  pub is_where : IsWhere where_word
  pub is_brace : sign_of brace ≡ OpenBrace

-- The column of a variable among the numbered names: it has the variable's number, where the variable is among them.
pub data IsColumn (names : List Name) : Name → Column → Type 0 where
  bound : (variable : List ℕ) (i : ℕ) → slice_get names i ≡ Some (VariableName variable)
      → IsColumn names (VariableName variable) (record { name = variable; label = Some i })
  unbound : (variable : List ℕ) → (Contains names (VariableName variable) → ⊥)
      → IsColumn names (VariableName variable) (record { name = variable; label = None })
