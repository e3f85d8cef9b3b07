-- The tokens of a query's text by productions (SPARQL 1.1, sections 19.4 and 19.8). Between tokens stand blanks and
-- comments; these go as far as they can, and so does each token.
use Rattle.std.specs.Prelude.{◌≡◌, ℕ, ◌≤◌, List, [], ◌∷◌, ◌++◌, length}
use Rattle.query_tokens.specs.Tokens.{Kind, IsToken, IsGap}
use Rattle.query_grammar.specs.Lexemes.{Lexeme, lexeme}

-- of the fronts of a text that are so, this is the longest
pub record IsLongest (Is : List ℕ → Type 0) (front back : List ℕ) : Type 0 where
  pub is : Is front
  pub longest : (other rest : List ℕ) → Is other → front ++ back ≡ other ++ rest → length other ≤ length front

-- the text is a token
abbrev pub IsSomeToken : List ℕ → Type 0
IsSomeToken text = (kind : Kind) × IsToken kind text

-- Text ::= Gap (Token Text)?
pub data IsLexed : List ℕ → List Lexeme → Type 0 where
  end : (gap : List ℕ) → IsGap gap → IsLexed gap []
  next : (gap token rest : List ℕ) (kind : Kind) (ls : List Lexeme)
      → IsLongest IsGap gap (token ++ rest) → IsLongest IsSomeToken token rest → IsToken kind token
      → IsLexed rest ls → IsLexed (gap ++ (token ++ rest)) (lexeme kind token ∷ ls)
