-- What contracts see of a dictionary: a finite map from the numbers of Ids to terms.
use Rattle.std.specs.Prelude.{◌≡◌, ◌≢◌, ◌⊎◌, ℕ, ◌<◌, ◌≤◌, ◌^◌, List, [], ◌∷◌, length, Option, None, Some, IsSome}
use Rattle.std.specs.Ordering.{nat_cmp}
use Rattle.std.specs.FinMap as map
use Rattle.std.specs.FinMap.{FinMap}
use Rattle.rdf_model.specs.Terms.{Text, Term, Iri, Blank, Literal, Typed, Tagged}
use Rattle.hash_index.specs.Short.{short_of}
use Rattle.hash_index.specs.Slots.{slot_at, IsIndexed, Writes}
use Rattle.term_dict.specs.Places.{IsUsedAgainFirst, IsOneMoreAtMost}
use Rattle.term_dict.specs.TextHash.{hash_of_texts}
use Rattle.term_dict.specs.declared.text_hash.TextHash.{TextHash}

abbrev pub Terms : Type 0
Terms = FinMap nat_cmp Term

-- no Id has the term
abbrev pub IsNew : Terms → Term → Type 0
IsNew terms term = (id : ℕ) → map.get terms id ≢ Some term

-- no two Ids have one term
abbrev pub IsOneToOne : Terms → Type 0
IsOneToOne terms = (p q : ℕ) (term : Term) → map.get terms p ≡ Some term → map.get terms q ≡ Some term → p ≡ q

-- each Id is below 2 ^ 31
abbrev pub HasSmallIds : Terms → Type 0
HasSmallIds terms = (id : ℕ) → IsSome (map.get terms id) → id < 2 ^ 31

-- the Id has the term: as before, or as a new Id of a new term
abbrev pub Interns : Terms → Terms → Term → ℕ → Type 0
Interns old new term id =
    ((map.get old id ≡ Some term) × (new ≡ old))
    ⊎ (IsNew old term × (map.get old id ≡ None) × (new ≡ map.insert old id term))

-- the texts of a term of which its hash is made
abbrev pub texts_of : Term → Text × Text
texts_of (Iri text) = (text, [])
texts_of (Blank label) = (label, 95 ∷ [])
texts_of (Literal form (Typed datatype)) = (form, datatype)
texts_of (Literal form (Tagged tag)) = (form, tag)

-- the hash under which a term is listed
unfoldable pub hash_of : TextHash → Term → ℕ
hash_of secrets term = short_of (hash_of_texts secrets (texts_of term).0 (texts_of term).1)

-- no slot that is listed under the hash has the term
abbrev pub IsNotUnder : List (Option Term) → FinMap nat_cmp ℕ → ℕ → Term → Type 0
IsNotUnder slots index hash term = (number : ℕ) → map.get index number ≡ Some hash → slot_at slots number ≢ Some term

-- slots without a term are listed nowhere
abbrev pub ListsHeld : List (Option Term) → FinMap nat_cmp ℕ → Type 0
ListsHeld slots index = (number : ℕ) → slot_at slots number ≡ None → map.get index number ≡ None

-- the term has come into a slot that had none, and into a new one only where each had a term
pub record Puts (old new : List (Option Term)) (number : ℕ) (term : Term) : Type 0 where
  pub vacant : slot_at old number ≡ None
  pub written : Writes old new number (Some term)
  pub least : IsUsedAgainFirst old number
  pub len : IsOneMoreAtMost old new number

-- the index has exactly the terms, each under its hash, no two places have one term, and the places are at most 2 ^ 31
pub record IsDictionary (secrets : TextHash) (slots : List (Option Term)) (index : FinMap nat_cmp ℕ) : Type 0 where
  pub indexed : IsIndexed (hash_of secrets) slots index
  pub different : (p q : ℕ) (term : Term) → slot_at slots p ≡ Some term → slot_at slots q ≡ Some term → p ≡ q
  pub few : length slots ≤ 2 ^ 31
