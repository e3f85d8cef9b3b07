-- Terms and triples (RDF 1.1 Concepts, sections 3.1 to 3.4). A text is its list of bytes in UTF-8.
use Rattle.std.specs.Prelude.{ℕ, List}

abbrev pub Text : Type 0
Text = List ℕ

-- what a literal has beside its lexical form: a datatype, or a language tag
pub data Kind : Type 0 where
  Typed : (datatype : Text) → Kind
  Tagged : (tag : Text) → Kind

pub data Term : Type 0 where
  Iri : (text : Text) → Term
  Blank : (label : Text) → Term
  Literal : (form : Text) (kind : Kind) → Term

-- subject, predicate, object
pub record Triple : Type 0 where
  pub s : Term
  pub p : Term
  pub o : Term
