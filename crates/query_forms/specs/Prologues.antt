-- Prefixes, and the IRIs that are written by them (SPARQL 1.1, section 4.1.1; section 19.8, rules 4, 6, 136 and 137).
-- Texts are bytes in UTF-8.
use Rattle.std.specs.Prelude.{◌≡◌, ℕ, not, List, [], ◌∷◌, ◌++◌, ◌==◌, encode_utf8_all}
use Rattle.std.specs.List.{AllByRecursion, filter}
use Rattle.std.specs.Str.{chars}
use Rattle.query_grammar.specs.Lexemes.{Lexeme}
use Rattle.query_grammar.specs.Signs.{Prefix, Iri, PnameNs, PnameLn, sign_of}
use Rattle.query_forms.specs.Insides.{MeansIri}

-- a prefix with its colon, and the IRI that is declared for it
pub record Declaration : Type 0 where
  pub prefix : List ℕ
  pub iri : List ℕ

abbrev pub declaration : List ℕ → List ℕ → Declaration
declaration prefix iri = record { prefix = prefix; iri = iri }

-- Prologue ::= PrefixDecl*, with PrefixDecl ::= 'PREFIX' PNAME_NS IRIREF
pub data IsPrologue : List Lexeme → List Declaration → Type 0 where
  nothing : IsPrologue [] []
  next : (word prefix token : Lexeme) (iri : List ℕ) (ls : List Lexeme) (ds : List Declaration)
      → sign_of word ≡ Prefix → sign_of prefix ≡ PnameNs → sign_of token ≡ Iri → MeansIri token.text iri
      → IsPrologue ls ds
      → IsPrologue (word ∷ prefix ∷ token ∷ ls) (declaration prefix.text iri ∷ ds)

-- The prefix stands for the IRI: that is its last declaration.
pub record StandsFor (ds : List Declaration) (prefix iri : List ℕ) : Type 0 where
  pub before : List Declaration
  pub behind : List Declaration
  pub are : ds ≡ before ++ declaration prefix iri ∷ behind
  pub last : AllByRecursion (λ d. d.prefix ≡ prefix → ⊥) behind

-- a local part without the backslashes of its escapes
abbrev pub without_backslashes : List ℕ → List ℕ
without_backslashes text = encode_utf8_all (filter (λ c. not (c == 92)) (chars text))

-- iri ::= IRIREF | PrefixedName, with PrefixedName ::= PNAME_LN | PNAME_NS. The prefix of a PNAME_LN ends at its first
-- colon.
pub data MeansName (ds : List Declaration) : Lexeme → List ℕ → Type 0 where
  iri : (l : Lexeme) (iri : List ℕ) → sign_of l ≡ Iri → MeansIri l.text iri → MeansName ds l iri
  prefix : (l : Lexeme) (iri : List ℕ) → sign_of l ≡ PnameNs → StandsFor ds l.text iri → MeansName ds l iri
  local : (l : Lexeme) (front local iri : List ℕ) → sign_of l ≡ PnameLn → l.text ≡ front ++ 58 ∷ local
      → AllByRecursion (λ c. c ≡ 58 → ⊥) front → StandsFor ds (front ++ 58 ∷ []) iri
      → MeansName ds l (iri ++ without_backslashes local)
