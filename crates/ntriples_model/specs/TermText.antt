-- The text of a term by the productions of RDF 1.1 N-Triples (section 7, object and literal), with no blanks between its
-- parts.
use Rattle.std.specs.Prelude.{◌≡◌, ◌<◌, ◌⊎◌, true, ◌∷◌, ◌++◌, length}
use Rattle.std.specs.List.{AllByRecursion}
use Rattle.rdf_model.specs.Terms.{Text, Kind, Typed, Tagged, Term, Iri, Blank, Literal}
use Rattle.rdf_model.specs.Texts.{xsd_string, canon, tsv}
use Rattle.ntriples_model.specs.Characters.{is_letter_or_digit}
use Rattle.ntriples_model.specs.Terminals.{IsIriRef, IsStringLiteral, IsBlankNodeLabel, IsLangTag}

-- STRING_LITERAL_QUOTE '^^' IRIREF
pub record IsTypedText (text form datatype : Text) : Type 0 where
  pub string : Text
  pub iri : Text
  pub text_is : text ≡ string ++ 94 ∷ 94 ∷ iri
  pub form_is : IsStringLiteral string form
  pub datatype_is : IsIriRef iri datatype

-- STRING_LITERAL_QUOTE LANGTAG
pub record IsTaggedText (text form tag : Text) : Type 0 where
  pub string : Text
  pub langtag : Text
  pub text_is : text ≡ string ++ langtag
  pub form_is : IsStringLiteral string form
  pub tag_is : IsLangTag langtag tag

-- literal ::= STRING_LITERAL_QUOTE ('^^' IRIREF | LANGTAG)?, where a string alone has the datatype xsd:string
abbrev pub IsLiteralText : Text → Text → Kind → Type 0
IsLiteralText text form (Typed datatype) = (IsStringLiteral text form × (datatype ≡ xsd_string)) ⊎ IsTypedText text form datatype
IsLiteralText text form (Tagged tag) = IsTaggedText text form tag

-- object ::= IRIREF | BLANK_NODE_LABEL | literal
abbrev pub IsTermText : Text → Term → Type 0
IsTermText text (Iri iri) = IsIriRef text iri
IsTermText text (Blank label) = IsBlankNodeLabel text label
IsTermText text (Literal form kind) = IsLiteralText text form kind

-- A term that has a text has these two, without a limit of length; and a label stays one under a scope.
pub record TextsStand : Type 0 where
  pub in_ntriples : (text : Text) (t : Term) → IsTermText text t → IsTermText (canon t) t
  pub in_answers : (text : Text) (t : Term) → IsTermText text t → IsTermText (tsv t) t
  pub under_a_scope : (scope terminal label : Text) → 0 < length scope → AllByRecursion (λ c. is_letter_or_digit c ≡ true) scope → IsBlankNodeLabel terminal label
      → IsTermText (canon (Blank (scope ++ 46 ∷ 46 ∷ label))) (Blank (scope ++ 46 ∷ 46 ∷ label))
