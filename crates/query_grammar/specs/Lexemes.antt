-- The tokens of a query's text in their order, with what stands between them left out (SPARQL 1.1, section 19.8).
use Rattle.std.specs.Prelude.{ℕ, zero, suc, List, [], ◌∷◌, length, take, drop, Option, Some, None, ◌==◌, cond, encode_utf8_all}
use Rattle.query_tokens.specs.Tokens.{Kind}
use Rattle.query_tokens.specs.Front.{token_at, gap_at}

-- a token with its bytes
pub record Lexeme : Type 0 where
  pub kind : Kind
  pub text : List ℕ

abbrev pub one_before : Lexeme → Option (List Lexeme) → Option (List Lexeme)
one_before lexeme None = None
one_before lexeme (Some lexemes) = Some (lexeme ∷ lexemes)

-- behind what stands between tokens
abbrev pub behind_gap : List ℕ → List ℕ
behind_gap cs = drop (gap_at cs) cs

abbrev pub lexeme : Kind → List ℕ → Lexeme
lexeme kind cs = record { kind = kind; text = encode_utf8_all cs }

-- the tokens of the characters, at most so many; none where something else follows
abbrev pub lexed_up_to : ℕ → List ℕ → Option (List Lexeme)
lexed_up_to zero cs = cond (length (behind_gap cs) == 0) (Some []) None
lexed_up_to (suc most) cs =
    cond (length (behind_gap cs) == 0) (Some [])
    (elim (token_at (behind_gap cs)) [
      | None ↦ None
      | Some found ↦ one_before (lexeme found.0 (take found.1 (behind_gap cs))) (lexed_up_to most (drop found.1 (behind_gap cs)))
    ])

-- the tokens of a text, none where it isn't made of tokens; each has a character at least
unfoldable pub lexed : List ℕ → Option (List Lexeme)
lexed cs = lexed_up_to (length cs) cs
