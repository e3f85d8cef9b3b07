-- The terms of a query, and its triple patterns (SPARQL 1.1, sections 4.1 and 4.2.4; section 19.8, rules 78, 109 and
-- 129 to 136).
use Rattle.std.specs.Prelude.{◌≡◌, ℕ, List, [], ◌∷◌, drop, map, codes, Some, slice_get}
use Rattle.std.specs.Char.{to_ascii_lowercase}
use Rattle.rdf_model.specs.Terms as rdf
use Rattle.rdf_model.specs.Texts.{xsd_string}
use Rattle.query_grammar.specs.Block.{Triple}
use Rattle.query_grammar.specs.Lexemes.{Lexeme}
use Rattle.query_grammar.specs.Meaning.{Name, Place, LabelAt, Const, Pattern, xsd, rdf_type, number_type}
use Rattle.query_grammar.specs.Signs.{True, False, TypeOf, LangTag, Integer, Number, Text, Carets, sign_of}
use Rattle.query_grammar.specs.Texts.{behind_first}
use Rattle.query_forms.specs.Insides.{MeansText}
use Rattle.query_forms.specs.Naming.{IsName}
use Rattle.query_forms.specs.Prologues.{Declaration, MeansName}

-- neither LANGTAG nor '^^' follows
abbrev pub IsPlain : List Lexeme → Type 0
IsPlain [] = Unit {0}
IsPlain (l ∷ ls) = (sign_of l ≡ LangTag → ⊥) × (sign_of l ≡ Carets → ⊥)

-- The term that begins the tokens: iri | 'a' | RDFLiteral | NumericLiteral | BooleanLiteral,
-- with RDFLiteral ::= String (LANGTAG | '^^' iri)?
pub data IsTerm (ds : List Declaration) : List Lexeme → rdf.Term → Type 0 where
  name : (l : Lexeme) (ls : List Lexeme) (iri : List ℕ) → MeansName ds l iri → IsTerm ds (l ∷ ls) (rdf.Iri iri)
  type_of : (l : Lexeme) (ls : List Lexeme) → sign_of l ≡ TypeOf → IsTerm ds (l ∷ ls) (rdf.Iri rdf_type)
  plain : (l : Lexeme) (ls : List Lexeme) (form : List ℕ) → sign_of l ≡ Text → MeansText l.text form → IsPlain ls
      → IsTerm ds (l ∷ ls) (rdf.Literal form (rdf.Typed xsd_string))
  tagged : (l tag : Lexeme) (ls : List Lexeme) (form : List ℕ) → sign_of l ≡ Text → MeansText l.text form
      → sign_of tag ≡ LangTag
      → IsTerm ds (l ∷ tag ∷ ls) (rdf.Literal form (rdf.Tagged (map to_ascii_lowercase (behind_first 1 tag.text))))
  typed : (l carets datatype : Lexeme) (ls : List Lexeme) (form iri : List ℕ) → sign_of l ≡ Text → MeansText l.text form
      → sign_of carets ≡ Carets → MeansName ds datatype iri
      → IsTerm ds (l ∷ carets ∷ datatype ∷ ls) (rdf.Literal form (rdf.Typed iri))
  integer : (l : Lexeme) (ls : List Lexeme) → sign_of l ≡ Integer
      → IsTerm ds (l ∷ ls) (rdf.Literal l.text (rdf.Typed (number_type l.kind)))
  number : (l : Lexeme) (ls : List Lexeme) → sign_of l ≡ Number
      → IsTerm ds (l ∷ ls) (rdf.Literal l.text (rdf.Typed (number_type l.kind)))
  yes : (l : Lexeme) (ls : List Lexeme) → sign_of l ≡ True
      → IsTerm ds (l ∷ ls) (rdf.Literal (codes "true") (rdf.Typed (xsd (codes "boolean"))))
  no : (l : Lexeme) (ls : List Lexeme) → sign_of l ≡ False
      → IsTerm ds (l ∷ ls) (rdf.Literal (codes "false") (rdf.Typed (xsd (codes "boolean"))))

-- What a place of a pattern has, by the tokens from there on: the number of a name, or a term.
pub data IsPlace (ds : List Declaration) (names : List Name) (i : ℕ) : List Lexeme → Place → Type 0 where
  label : (l : Lexeme) (ls : List Lexeme) (name : Name) (n : ℕ) → IsName i l name → slice_get names n ≡ Some name
      → IsPlace ds names i (l ∷ ls) (LabelAt n)
  term : (ls : List Lexeme) (t : rdf.Term) → IsTerm ds ls t → IsPlace ds names i ls (Const t)

-- The pattern of a triple of places.
pub record IsPattern (ds : List Declaration) (names : List Name) (ls : List Lexeme) (t : Triple) (pattern : Pattern)
    : Type 0 where
  pub s : IsPlace ds names t.s (drop t.s ls) pattern.s
  pub p : IsPlace ds names t.p (drop t.p ls) pattern.p
  pub o : IsPlace ds names t.o (drop t.o ls) pattern.o
