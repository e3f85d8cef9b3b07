-- LIMIT and OFFSET behind a query's pattern (SPARQL 1.1, sections 15.4 and 15.5; section 19.8, rules 25 to 27).
use Rattle.std.specs.Prelude.{◌≡◌, ℕ, List, [], ◌∷◌, ◌++◌, Option, Some, None}
use Rattle.query_grammar.specs.Lexemes.{Lexeme}
use Rattle.query_grammar.specs.Meaning.{value_of}
use Rattle.query_grammar.specs.Signs.{Sign, Limit, Offset, Integer, sign_of}

-- LimitClause ::= 'LIMIT' INTEGER, and OffsetClause ::= 'OFFSET' INTEGER, with their number
pub data IsClause (word : Sign) : List Lexeme → ℕ → Type 0 where
  clause : (first second : Lexeme) → sign_of first ≡ word → sign_of second ≡ Integer
      → IsClause word (first ∷ second ∷ []) (value_of second.text)

-- (LimitClause OffsetClause? | OffsetClause LimitClause?)?, with the limit, if there is one, and the offset
pub data IsTail : List Lexeme → Option ℕ → ℕ → Type 0 where
  nothing : IsTail [] None 0
  limit : (ls : List Lexeme) (m : ℕ) → IsClause Limit ls m → IsTail ls (Some m) 0
  offset : (ks : List Lexeme) (n : ℕ) → IsClause Offset ks n → IsTail ks None n
  limit_offset : (ls ks : List Lexeme) (m n : ℕ) → IsClause Limit ls m → IsClause Offset ks n
      → IsTail (ls ++ ks) (Some m) n
  offset_limit : (ls ks : List Lexeme) (m n : ℕ) → IsClause Limit ls m → IsClause Offset ks n
      → IsTail (ks ++ ls) (Some m) n
