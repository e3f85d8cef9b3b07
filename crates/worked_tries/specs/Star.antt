-- A star, which is a set of triples of one subject and one predicate, and a triple apart from it.
use Rattle.std.specs.Prelude.{◌≡◌, ◌≢◌, ℕ, zero, suc, true, List, [], ◌∷◌}
use Rattle.std.specs.Ordering.{nat_cmp}
use Rattle.std.specs.FinSet as set
use Rattle.hypertrie_model.specs.IdSets.{IdSet}
use Rattle.hypertrie_model.specs.Sets.{has, single}
use Rattle.trie_depth.specs.declared.id.Trip.{Trip}

abbrev pub IsNoneOf : List ℕ → ℕ → Type 0
IsNoneOf [] n = Unit {0}
IsNoneOf (m ∷ ms) n = (n ≢ m) × IsNoneOf ms n

-- no two of them are equal
abbrev pub AreDifferent : List ℕ → Type 0
AreDifferent [] = Unit {0}
AreDifferent (n ∷ ns) = IsNoneOf ns n × AreDifferent ns

-- (s, p, o), whose object is none of some other ids
pub record IsRay (s p : ℕ) (others : List ℕ) (triple : List ℕ) : Type 0 where
  pub object : ℕ
  pub is : triple ≡ s ∷ p ∷ object ∷ []
  pub other : IsNoneOf others object

-- (t, q, u) has no id of the star, whose triples are (s, p, o), one or more
pub record IsStar (s p t q u : ℕ) (G : IdSet) : Type 0 where
  pub some : (triple : List ℕ) × (has G triple ≡ true)
  pub rays : (triple : List ℕ) → has G triple ≡ true → IsRay s p (s ∷ p ∷ t ∷ q ∷ u ∷ []) triple
  pub different : AreDifferent (s ∷ p ∷ t ∷ q ∷ u ∷ [])

-- such a star, and (t, q, u)
pub record IsStarAndOne (s p t q u : ℕ) (G : IdSet) : Type 0 where
  pub star : IdSet
  pub is_star : IsStar s p t q u star
  pub is : G ≡ set.union star (single nat_cmp (t ∷ q ∷ u ∷ []))

-- the triples (0, 1, k), (0, 1, k + 1) and so on, n of them
abbrev pub rays : ℕ → ℕ → List Trip
rays k zero = []
rays k (suc n) = record { 0 = record { 0 = 0 }; 1 = record { 0 = 1 }; 2 = record { 0 = k } } ∷ rays (suc k) n
