-- Texts behind others leave the places of those as they are.
use Rattle.std.proofs.Common.{◌≡◌, ℕ, zero, suc, ◌<◌, ◌≤◌, List, [], ◌∷◌, ◌++◌, length, refl, ap, arith}
use Rattle.rdf_model.specs.Terms as model
use Rattle.rdf_model.specs.Terms.{Text}
use Rattle.ntriples.specs.declared.place.TermPlace.{TermPlace}
use Rattle.ntriples.specs.declared.place.TermPlace.TheVariants.{Iri, Blank, Plain, Typed, Tagged}
use Rattle.ntriples.specs.Places.{text_at, term_at, IsWithin}

pub text_at-append : (a b : List Text) (i : ℕ) → i < length a → text_at (a ++ b) i ≡ text_at a i
text_at-append [] b i h = absurd (omega arith)
text_at-append (x ∷ a) b zero h = refl
text_at-append (x ∷ a) b (suc i) h = text_at-append a b i (omega arith)

pub text_at-last : (a : List Text) (text : Text) → text_at (a ++ text ∷ []) (length a) ≡ text
text_at-last [] text = refl
text_at-last (x ∷ a) text = text_at-last a text

pub term_at-append : (a b : List Text) (place : TermPlace) → IsWithin (length a) place → term_at (a ++ b) place ≡ term_at a place
term_at-append a b (Iri i) h = ap model.Iri (text_at-append a b i h)
term_at-append a b (Blank i) h = ap model.Blank (text_at-append a b i h)
term_at-append a b (Plain i) h = rw (text_at-append a b i h) refl
term_at-append a b (Typed i j) h = rw (text_at-append a b i h.0, text_at-append a b j h.1) refl
term_at-append a b (Tagged i j) h = rw (text_at-append a b i h.0, text_at-append a b j h.1) refl

pub within_more : (n m : ℕ) (place : TermPlace) → n ≤ m → IsWithin n place → IsWithin m place
within_more n m (Iri i) h w = omega arith
within_more n m (Blank i) h w = omega arith
within_more n m (Plain i) h w = omega arith
within_more n m (Typed i j) h w = (omega arith, omega arith)
within_more n m (Tagged i j) h w = (omega arith, omega arith)
