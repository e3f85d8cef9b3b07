-- Terms by the places of their texts in a Scratch.
use Rattle.std.specs.Prelude.{◌≡◌, ℕ, ◌+◌, ◌≤◌, ◌<◌, List, [], ◌∷◌, ◌++◌, length, sum_by, slice_get, unwrap_or, Option, Some, None, MatchOption}
use Rattle.std.specs.Borrow.{Bor}
use Rattle.rdf_model.specs.Terms as model
use Rattle.rdf_model.specs.Terms.{Text}
use Rattle.rdf_model.specs.Texts.{xsd_string}
use Rattle.ntriples_model.specs.Line.{made, scoped}
use Rattle.ntriples_model.specs.Terminals.{label_at}
use Rattle.ntriples.specs.declared.place.TermPlace.{TermPlace}
use Rattle.ntriples.specs.declared.place.TriplePlaces.{TriplePlaces}
use Rattle.ntriples.specs.declared.place.TermPlace.TheVariants.{Iri, Blank, Plain, Typed, Tagged}

abbrev pub text_at : List Text → ℕ → Text
text_at texts i = unwrap_or (slice_get texts i) []

abbrev pub term_at : List Text → TermPlace → model.Term
term_at texts (Iri i) = model.Iri (text_at texts i)
term_at texts (Blank i) = model.Blank (text_at texts i)
term_at texts (Plain i) = model.Literal (text_at texts i) (model.Typed xsd_string)
term_at texts (Typed i j) = model.Literal (text_at texts i) (model.Typed (text_at texts j))
term_at texts (Tagged i j) = model.Literal (text_at texts i) (model.Tagged (text_at texts j))

-- the place is one of the first n
abbrev pub IsWithin : ℕ → TermPlace → Type 0
IsWithin n (Iri i) = i < n
IsWithin n (Blank i) = i < n
IsWithin n (Plain i) = i < n
IsWithin n (Typed i j) = (i < n) × (j < n)
IsWithin n (Tagged i j) = (i < n) × (j < n)

-- the label at the front of some bytes, under a scope
abbrev pub scoped_label_at : Text → List ℕ → Option (Text × Text)
scoped_label_at scope bytes = made (scoped scope) (label_at bytes)

-- A text was found at the front of some bytes. It is the new last one, and takes no more room than its bytes and the spare ones.
pub record ReadsText (spare : ℕ) (found : Option (Text × Text)) (bytes : Text) (old new : List Text) (place : ℕ) (rest : Text) : Type 0 where
  pub text : Text
  pub is : found ≡ Some (text, rest)
  pub texts : new ≡ old ++ text ∷ []
  pub place_is : place ≡ length old
  pub room : length text + length rest ≤ length bytes + spare

-- the place of the text and what stands behind it; nothing where there is none, and the texts are as they were
abbrev pub FindsText : ℕ → Option (Text × Text) → Text → List Text → List Text → Option (ℕ × Bor Text) → Type 0
FindsText spare found bytes old new result = MatchOption result ((found ≡ None) × (new ≡ old)) (λ r. ReadsText spare found bytes old new r.0 r.1.now)

-- A term was found at the front of some bytes: its texts stand behind the old ones, at most two of them.
pub record ReadsTerm (found : Option (model.Term × Text)) (bytes : Text) (old new : List Text) (place : TermPlace) (rest : Text) : Type 0 where
  pub is : found ≡ Some (term_at new place, rest)
  pub more : List Text
  pub texts : new ≡ old ++ more
  pub within : IsWithin (length new) place
  pub count : length more ≤ 2
  pub room : sum_by length more + length rest ≤ length bytes + 64

-- the place of the term and what stands behind it; nothing where there is none
abbrev pub FindsTerm : Option (model.Term × Text) → Text → List Text → List Text → Option (TermPlace × Bor Text) → Type 0
FindsTerm found bytes old new result = MatchOption result (found ≡ None) (λ r. ReadsTerm found bytes old new r.0 r.1.now)

-- the triple of three terms by their places
abbrev pub triple_at_places : List Text → TriplePlaces → model.Triple
triple_at_places texts t = record { s = term_at texts t.s; p = term_at texts t.p; o = term_at texts t.o }

abbrev pub AreWithin : ℕ → TriplePlaces → Type 0
AreWithin n t = IsWithin n t.s × IsWithin n t.p × IsWithin n t.o

-- the places of the triple's terms among the texts; nothing where there is none
abbrev pub FindsTriple : Option model.Triple → List Text → Option TriplePlaces → Type 0
FindsTriple found texts result = MatchOption result (found ≡ None) (λ t. (found ≡ Some (triple_at_places texts t)) × AreWithin (length texts) t)
