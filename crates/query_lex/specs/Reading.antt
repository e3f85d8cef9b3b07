-- What a Lexer reads: a text, up to a place.
use Rattle.std.specs.Prelude.{◌≡◌, ℕ, ◌+◌, ◌-◌, ◌<◌, ◌≤◌, List, [], ◌++◌, length, take, drop, slice_range, Option, Some, None, Result, Ok, Err, encode_utf8_all}
use Rattle.std.specs.Str.{chars, IsCharBoundary}
use Rattle.query_tokens.specs.Front.{token_at, gap_at}
use Rattle.query_lex.specs.Kinds.{kind_of}
use Rattle.query_lex.specs.declared.token.Token.{Token}
use Rattle.query_lex.specs.declared.token.LexFault.{LexFault}

-- a text in UTF-8, and how many of its bytes were read
pub record Reading : Type 0 where
  pub text : List ℕ
  pub place : ℕ

-- the characters that are to come, and those behind the blanks and comments that begin them
abbrev pub ahead : Reading → List ℕ
ahead r = chars (drop r.place r.text)

abbrev pub behind_gap : Reading → List ℕ
behind_gap r = drop (gap_at (ahead r)) (ahead r)

-- how many bytes the first n characters take
abbrev pub size : ℕ → List ℕ → ℕ
size n cs = length (encode_utf8_all (take n cs))

-- the token is the longest that begins what stands behind blanks and comments, and the text was read up to its end
pub record IsNext (old : Reading) (token : Token) (new : Reading) : Type 0 where
  -- of how many characters it is
  pub count : ℕ
  pub longest : token_at (behind_gap old) ≡ Some (kind_of token.kind, count)
  -- its place
  pub from : token.from ≡ old.place + size (gap_at (ahead old)) (ahead old)
  pub to : token.to ≡ token.from + size count (behind_gap old)
  pub begins : IsCharBoundary old.text token.from
  pub ends : IsCharBoundary old.text token.to
  -- its bytes in the text
  pub bytes : slice_range old.text token.from token.to ≡ encode_utf8_all (take count (behind_gap old))
  pub read : new ≡ record { text = old.text; place = token.to }

-- only blanks and comments are left
abbrev pub IsAtEnd : Reading → Type 0
IsAtEnd r = behind_gap r ≡ []

-- something else is left, and no token begins it
abbrev pub IsAtFault : Reading → Type 0
IsAtFault r = (0 < length (behind_gap r)) × (token_at (behind_gap r) ≡ None)

-- The next token; none exactly at the end; a fault exactly where there is one. Without a token nothing was read.
abbrev pub Gives : Reading → Result (Option Token) LexFault → Reading → Type 0
Gives old (Ok (Some token)) new = IsNext old token new
Gives old (Ok None) new = IsAtEnd old × (new ≡ old)
Gives old (Err fault) new = IsAtFault old × (new ≡ old)

-- behind the first n characters of the text
pub record IsBehind (text : List ℕ) (n : ℕ) (rest : List ℕ) : Type 0 where
  pub bytes : text ≡ encode_utf8_all (take n (chars text)) ++ rest
  pub characters : chars rest ≡ drop n (chars text)

-- the rest ends the text
pub record IsRest (text rest : List ℕ) : Type 0 where
  pub within : length rest ≤ length text
  pub is : rest ≡ drop (length text - length rest) text
