-- What is read of a text, and what stands behind it.
use Rattle.std.specs.Prelude.{◌≡◌, ℕ, ◌<◌, ◌≤◌, List, [], ◌∷◌, drop, length, Option, Some, None, MatchOption, IsUtf8, encode_utf8, ◌==◌, if◌then◌else◌}
use Rattle.std.specs.Borrow.{Bor}
use Rattle.std.specs.Str.{chars}
use Rattle.ntriples_model.specs.Terminals.{hex_at, string_escape_at}
use Rattle.query_text.specs.Seen.{meaning, longer}

-- the first character, and what follows it
abbrev pub ReadsFirst : List ℕ → Option (ℕ × Bor (List ℕ)) → Type 0
ReadsFirst text r = MatchOption r (chars text ≡ []) (λ p. (chars text ≡ p.0 ∷ chars p.1.now) × (length p.1.now < length text) × IsUtf8 p.1.now)

-- how many digits follow the letter of a UCHAR
abbrev pub digit_count : ℕ → Option ℕ
digit_count letter = if letter == 117 then Some 4 else (if letter == 85 then Some 8 else None)

-- the number of so many hexadecimal digits that begin the text
abbrev pub ReadsNumber : ℕ → List ℕ → Option (ℕ × Bor (List ℕ)) → Type 0
ReadsNumber count text r = MatchOption r (hex_at count (chars text) ≡ None)
    (λ p. (hex_at count (chars text) ≡ Some p.0) × (chars p.1.now ≡ drop count (chars text)) × (length p.1.now ≤ length text) × IsUtf8 p.1.now)

-- the text begins with an escape's n characters behind the backslash
pub record IsEscapeRead (text : List ℕ) (c : ℕ) (rest : List ℕ) : Type 0 where
  pub count : ℕ
  pub found : string_escape_at (chars text) ≡ Some (c, count)
  pub behind : chars rest ≡ drop count (chars text)
  pub shorter : length rest ≤ length text
  pub utf8 : IsUtf8 rest

abbrev pub ReadsEscape : List ℕ → Option (ℕ × Bor (List ℕ)) → Type 0
ReadsEscape text r = MatchOption r (string_escape_at (chars text) ≡ None) (λ p. IsEscapeRead text p.0 p.1.now)

-- what is meant by the text is a character, and what is meant by the rest
pub record IsMeant (text : List ℕ) (c : ℕ) (rest : List ℕ) : Type 0 where
  pub means : meaning text ≡ longer (encode_utf8 c) (meaning rest)
  pub shorter : length rest < length text
  pub utf8 : IsUtf8 rest

abbrev pub ReadsMeant : List ℕ → Option (ℕ × Bor (List ℕ)) → Type 0
ReadsMeant text r = MatchOption r (meaning text ≡ None) (λ p. IsMeant text p.0 p.1.now)
