-- The set that a list of tuples stands for once ids are fixed at some of its positions.
use Rattle.std.specs.Prelude.{◌≡◌, ℕ, suc, ◌/◌, ◌%◌, ◌^◌, ◌<◌, ◌&&◌, Bool, true, cond, nat_eq, List, [], ◌∷◌, map, Option, None, Some}
use Rattle.std.specs.List.{filter}
use Rattle.std.specs.FinSet as set
use Rattle.hypertrie_model.specs.IdSets.{IdSet}
use Rattle.trie_depth.specs.Operands.{Admits}
use Rattle.trie_depth.specs.declared.id.Id.{Id}
use Rattle.trie_depth.specs.declared.id.Trip.{Trip}
use Rattle.trie_depth.specs.Tuples.{trip_tuple}
use Rattle.key_join.specs.declared.fixed.Fixed.{Fixed}

-- a place with the number of its id, or free
abbrev pub place_of : Option Id → Option ℕ
place_of None = None
place_of (Some i) = Some i.0

abbrev pub places_of : Fixed → List (Option ℕ)
places_of f = place_of f.0 ∷ place_of f.1 ∷ place_of f.2 ∷ []

-- how many places are free
abbrev pub n_free : List (Option ℕ) → ℕ
n_free [] = 0
n_free (None ∷ ps) = suc (n_free ps)
n_free (Some i ∷ ps) = n_free ps

-- what a mask of the free places makes of a place, and what it names at those behind it
abbrev pub put_one : ℕ → ℕ → Option ℕ → Option ℕ
put_one m k None = cond (nat_eq (m % 2) 1) (Some k) None
put_one m k (Some i) = Some i

abbrev pub mask_behind : ℕ → Option ℕ → ℕ
mask_behind m None = m / 2
mask_behind m (Some i) = m

-- the places with k at each free one that the mask names
abbrev pub put : ℕ → ℕ → List (Option ℕ) → List (Option ℕ)
put m k [] = []
put m k (p ∷ ps) = put_one m k p ∷ put (mask_behind m p) k ps

-- whether the tuple has each number that is fixed
abbrev pub agrees : List (Option ℕ) → List ℕ → Bool
agrees [] t = true
agrees (p ∷ ps) [] = true
agrees (None ∷ ps) (x ∷ t) = agrees ps t
agrees (Some i ∷ ps) (x ∷ t) = nat_eq i x && agrees ps t

-- the triple has each id that is fixed, and k at the mask
abbrev pub HasAt : Fixed → ℕ → Trip → ℕ → Type 0
HasAt fixed m t k = agrees (put m k (places_of fixed)) (trip_tuple t) ≡ true

-- what stands at the free places
abbrev pub left : List (Option ℕ) → List ℕ → List ℕ
left [] t = t
left (p ∷ ps) [] = []
left (None ∷ ps) (x ∷ t) = x ∷ left ps t
left (Some i ∷ ps) (x ∷ t) = left ps t

-- the tuples of the list that have what is fixed, those places left out
unfoldable pub set_of : List (List ℕ) → List (Option ℕ) → IdSet
set_of ts ps = set.from_list (map (left ps) (filter (agrees ps) ts))

abbrev pub triples : List Trip → List (List ℕ)
triples es = map trip_tuple es

-- some triple of the list has what is fixed, and k at the mask
abbrev pub HasKey : List Trip → Fixed → ℕ → ℕ → Type 0
HasKey es fixed m k = Admits (set_of (triples es) (places_of fixed)) m k

-- each number of the triple is the number of an id
abbrev pub IsIdTriple : Trip → Type 0
IsIdTriple e = (e.0.0 < 2 ^ 32) × (e.1.0 < 2 ^ 32) × (e.2.0 < 2 ^ 32)
