-- What interning the terms of a triple does to a dictionary and to the notes of its new Ids.
use Rattle.std.specs.Prelude.{◌≡◌, ◌⊎◌, ℕ, true, List, [], ◌∷◌, ◌++◌, None, Some, IsSome}
use Rattle.std.specs.FinMap as map
use Rattle.std.specs.FinSet as set
use Rattle.rdf_model.specs.Terms.{Term, Triple}
use Rattle.rdf_model.specs.Graph.{term_cmp}
use Rattle.term_dict.specs.Dict.{Terms, IsNew}
use Rattle.trie_depth.specs.declared.id.Id.{Id}
use Rattle.trie_depth.specs.declared.id.Trip.{Trip}
use Rattle.graph_image.specs.Images.{HasExactly, is_among, without}
use Rattle.graph_image.specs.DictLaws.{Extends}
use Rattle.graph_store.specs.Staging.{numbers, AreDistinct}

-- the term has the Id: as before, or as a new Id of a new term, which is noted last
abbrev pub Notes : Terms → List Id → Terms → List Id → Term → Id → Type 0
Notes old noted new more t id =
    ((map.get old id.0 ≡ Some t) × (new ≡ old) × (more ≡ noted))
    ⊎ (IsNew old t × (map.get old id.0 ≡ None) × (new ≡ map.insert old id.0 t) × (more ≡ noted ++ id ∷ []))

-- the three Ids are those of the triple's terms
pub record HasIds (terms : Terms) (t : Triple) (trip : Trip) : Type 0 where
  pub s : map.get terms trip.0.0 ≡ Some t.s
  pub p : map.get terms trip.1.0 ≡ Some t.p
  pub o : map.get terms trip.2.0 ≡ Some t.o

-- the dictionary lacks a term of the triple
abbrev pub HasNewTerm : Terms → Triple → Type 0
HasNewTerm terms t = IsNew terms t.s ⊎ (IsNew terms t.p ⊎ IsNew terms t.o)

-- these terms and those of the triple
abbrev pub with_terms : set.FinSet term_cmp → Triple → set.FinSet term_cmp
with_terms S t = set.insert (set.insert (set.insert S t.s) t.p) t.o

-- a dictionary that had exactly some terms has exactly these and those of the triple
abbrev pub AddsTerms : Terms → Terms → Triple → Type 0
AddsTerms old new t = (S : set.FinSet term_cmp) → HasExactly old S → HasExactly new (with_terms S t)

-- new terms came into a dictionary, under Ids that are noted behind the earlier ones
pub record Grows (old : Terms) (noted : List Id) (new : Terms) (more : List Id) : Type 0 where
  pub rest : List Id
  pub listed : more ≡ noted ++ rest
  pub extends : Extends old new
  pub fresh : (id : ℕ) → is_among (numbers rest) id ≡ true → map.get old id ≡ None
  pub there : (id : ℕ) → is_among (numbers rest) id ≡ true → IsSome (map.get new id)
  pub new_terms : (id : ℕ) (t : Term) → is_among (numbers rest) id ≡ true → map.get new id ≡ Some t → IsNew old t
  pub once : AreDistinct (numbers rest)
  -- without the noted terms the dictionary is the old one
  pub back : without new (numbers rest) ≡ old
