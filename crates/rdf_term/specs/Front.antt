-- The character that begins some bytes.
use Rattle.std.specs.Prelude.{◌≡◌, ℕ, ◌<◌, ◌≤◌, List, [], ◌∷◌, ◌++◌, length, drop, Option, MatchOption, encode_utf8}
use Rattle.std.specs.Char.{IsScalar}
use Rattle.ntriples_model.specs.Terminals.{front_chars}

-- the bytes begin with a character, which takes n of them
pub record IsFirstChar (bytes : List ℕ) (c n : ℕ) : Type 0 where
  pub splits : bytes ≡ encode_utf8 c ++ drop n bytes
  pub character : IsScalar c
  pub size : n ≡ length (encode_utf8 c)
  pub some : 0 < n
  pub within : n ≤ length bytes
  pub front : front_chars bytes ≡ c ∷ front_chars (drop n bytes)

-- a character, or none where none begins the bytes
abbrev pub GivesFirst : List ℕ → Option (ℕ × ℕ) → Type 0
GivesFirst bytes r = MatchOption r (front_chars bytes ≡ []) (λ p. IsFirstChar bytes p.0 p.1)
