-- What the characters inside an IRI or a string mean (SPARQL 1.1, sections 19.2 and 19.7), by productions. Texts are
-- bytes in UTF-8.
use Rattle.std.specs.Prelude.{◌≡◌, ℕ, true, false, ◌==◌, List, [], ◌∷◌, ◌++◌, encode_utf8_all}
use Rattle.std.specs.List.{list_all}
use Rattle.std.specs.Str.{chars}
use Rattle.ntriples_model.specs.Characters.{is_iri_char}
use Rattle.ntriples_model.specs.Terminals.{IsAbsolute, IsStringEscape}
use Rattle.query_grammar.specs.Texts.{trimmed, within_quotes}

-- (CHARACTER | ECHAR | UCHAR)*, where a character other than the backslash means itself
pub data Means : List ℕ → List ℕ → Type 0 where
  done : Means [] []
  plain : (c : ℕ) (cs meant : List ℕ) → (c == 92) ≡ false → Means cs meant → Means (c ∷ cs) (c ∷ meant)
  escaped : (escape : List ℕ) (c : ℕ) (cs meant : List ℕ) → IsStringEscape escape c → Means cs meant
      → Means (escape ++ cs) (c ∷ meant)

-- The IRI that a token means: it is absolute, and has no character that may not stand in an IRI.
pub record MeansIri (token iri : List ℕ) : Type 0 where
  pub meant : List ℕ
  pub means : Means (trimmed (chars token)) meant
  pub is : iri ≡ encode_utf8_all meant
  pub fits : list_all is_iri_char iri ≡ true
  pub absolute : IsAbsolute iri

-- The text that a string means.
pub record MeansText (token text : List ℕ) : Type 0 where
  pub meant : List ℕ
  pub means : Means (within_quotes token) meant
  pub is : text ≡ encode_utf8_all meant
