-- Triples of Ids read as triples of terms.
use Rattle.std.specs.Prelude.{◌≡◌, ℕ, not, true, Bool, List, [], ◌∷◌, Some, IsSome, unwrap_or, slice_index}
use Rattle.std.specs.List.{list_any}
use Rattle.std.specs.Ordering.{eq_by_cmp, nat_cmp}
use Rattle.std.specs.FinMap as map
use Rattle.std.specs.FinSet as set
use Rattle.hypertrie_model.specs.IdSets.{IdSet}
use Rattle.hypertrie_model.specs.Sets.{has}
use Rattle.rdf_model.specs.Terms.{Term, Iri, Triple}
use Rattle.rdf_model.specs.Graph.{Graph, term_cmp, triple_cmp}
unfoldable pub use Rattle.rdf_model.specs.GraphTerms.{terms_of}
use Rattle.set_image.specs.Images.{image}
use Rattle.term_dict.specs.Dict.{Terms}

-- the term of an Id, and an IRI without text where there is none
abbrev pub term_at : Terms → ℕ → Term
term_at terms id = unwrap_or (map.get terms id) (Iri [])

-- the triple of the terms of three Ids
abbrev pub triple_at : Terms → List ℕ → Triple
triple_at terms t = record { s = term_at terms (slice_index t 0); p = term_at terms (slice_index t 1); o = term_at terms (slice_index t 2) }

-- the graph that a set of triples of Ids stands for
abbrev pub graph_of : Terms → IdSet → Graph
graph_of terms H = image triple_cmp (triple_at terms) H

-- the tuple is one of three Ids of the dictionary
pub record IsKnown (terms : Terms) (t : List ℕ) : Type 0 where
  pub s : ℕ
  pub p : ℕ
  pub o : ℕ
  pub is : t ≡ s ∷ p ∷ o ∷ []
  pub subject : IsSome (map.get terms s)
  pub predicate : IsSome (map.get terms p)
  pub object : IsSome (map.get terms o)

-- so is each tuple of the set
abbrev pub AreKnown : Terms → IdSet → Type 0
AreKnown terms H = (t : List ℕ) → has H t ≡ true → IsKnown terms t

-- the dictionary has exactly these terms
pub record HasExactly (terms : Terms) (S : set.FinSet term_cmp) : Type 0 where
  pub onto : (t : Term) → set.contains S t ≡ true → (id : ℕ) × (map.get terms id ≡ Some t)
  pub into : (id : ℕ) (t : Term) → map.get terms id ≡ Some t → set.contains S t ≡ true

-- whether the Id is one of the list
abbrev pub is_among : List ℕ → ℕ → Bool
is_among ids id = list_any (eq_by_cmp nat_cmp id) ids

-- the dictionary without these Ids and their terms
abbrev pub without : Terms → List ℕ → Terms
without terms ids = map.retain_keys terms (λ id. not (is_among ids id))

-- a tuple of the set has the Id
pub record IsUsed (H : IdSet) (id : ℕ) : Type 0 where
  pub tuple : List ℕ
  pub there : has H tuple ≡ true
  pub among : is_among tuple id ≡ true
