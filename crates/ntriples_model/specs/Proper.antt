-- Terms and triples that lines of N-Triples can say (RDF 1.1 N-Triples, section 7), and scopes of their blank nodes.
use Rattle.std.specs.Prelude.{◌≡◌, true, Some}
use Rattle.std.specs.List.{AllByRecursion}
use Rattle.std.specs.FinSet as set
use Rattle.rdf_model.specs.Terms.{Text, Term, Iri, Blank, Literal, Triple}
use Rattle.rdf_model.specs.Texts.{canon, tsv}
use Rattle.rdf_model.specs.Graph.{Graph}
use Rattle.ntriples_model.specs.Characters.{is_letter_or_digit}
use Rattle.ntriples_model.specs.Line.{IsLine}
use Rattle.ntriples_model.specs.TermText.{IsTermText}

-- a scope is letters and digits
abbrev pub IsScope : Text → Type 0
IsScope = AllByRecursion (λ c. is_letter_or_digit c ≡ true)

-- a term whose N-Triples text stands for it
abbrev pub IsProper : Term → Type 0
IsProper t = IsTermText (canon t) t

abbrev pub MayBeSubject : Term → Type 0
MayBeSubject (Iri text) = Unit {0}
MayBeSubject (Blank label) = Unit {0}
MayBeSubject (Literal form kind) = ⊥

abbrev pub MayBePredicate : Term → Type 0
MayBePredicate (Iri text) = Unit {0}
MayBePredicate (Blank label) = ⊥
MayBePredicate (Literal form kind) = ⊥

-- the subject is an IRI or a blank node, the predicate an IRI, and the N-Triples text of each term stands for it
pub record IsProperTriple (t : Triple) : Type 0 where
  pub subject : MayBeSubject t.s
  pub predicate : MayBePredicate t.p
  pub s : IsProper t.s
  pub p : IsProper t.p
  pub o : IsProper t.o

abbrev pub AreProper : Graph → Type 0
AreProper G = (t : Triple) → set.contains G t ≡ true → IsProperTriple t

-- the N-Triples text of a term and its text in an answer both stand for it
abbrev pub BothTextsStand : Term → Type 0
BothTextsStand t = IsTermText (canon t) t × IsTermText (tsv t) t

-- what holds of each triple that a line says under a scope
abbrev pub OfLines : (Triple → Type 0) → Type 0
OfLines P = (scope line : Text) (t : Triple) → IsScope scope → IsLine scope line (Some t) → P t

abbrev pub LinesSayProperTriples : Type 0
LinesSayProperTriples = OfLines IsProperTriple

-- both texts of each term of a line stand for the term again
abbrev pub TextsOfLinesStand : Type 0
TextsOfLinesStand = OfLines (λ t. BothTextsStand t.s × BothTextsStand t.p × BothTextsStand t.o)
