-- Where a search stands, and which solutions are still to come.
use Rattle.std.specs.Prelude.{◌≡◌, ℕ, ◌+◌, ◌*◌, ◌-◌, ◌^◌, ◌<◌, ◌≤◌, Bool, true, cond, nat_lt, List, [], ◌∷◌, length, map, take, slice_index_or, zero, suc, IfSome}
use Rattle.std.specs.List.{AllByRecursion, range_with_len}
use Rattle.std.specs.List.Sorted.{IsPermutation}
use Rattle.std.specs.Ordering.{nat_cmp}
use Rattle.hypertrie_model.specs.IdSets.{IdSet}
use Rattle.trie_depth.specs.declared.id.Id.{Id}
use Rattle.bag_model.specs.Solutions.{Rest, solutions}
use Rattle.bag_list.specs.declared.level.Level.{Level}
use Rattle.bag_list.specs.declared.search.Search.{Search}
use Rattle.bag_list.specs.Levels.{from_of, to_come, level_labels, n_fresh, tells}
use Rattle.bag_list.specs.declared.track.Track.{Track}
use Rattle.bag_list.specs.Operands.{AreJoined, AreRoom}
use Rattle.bag_list.specs.Tracks.{rests, AllAdmitAt, AreTracks}

-- all numbers of ids below n, and the assignments of ids
unfoldable pub ids_below : ℕ → List ℕ
ids_below n = range_with_len 0 n

abbrev pub id_solutions : ℕ → List (Rest nat_cmp) → List (List ℕ)
id_solutions n rests = solutions nat_cmp (ids_below (2 ^ 32)) n rests

abbrev pub numbers : List Id → List ℕ
numbers ids = map (λ k. k.0) ids

-- how far the search is from its end, where h labels aren't fixed at the first level
abbrev pub power : ℕ → ℕ
power zero = 1
power (suc h) = 2 ^ 33 * power h

abbrev pub weight : ℕ → List Level → Bool → ℕ
weight h [] fresh = cond fresh ((2 ^ 32 + 2) * power h) 0
weight zero (f ∷ fs) fresh = 0
weight (suc h) (f ∷ fs) fresh = (2 ^ 32 - from_of f.from + 1) * power (suc h) + weight h fs fresh

-- the labels that are fixed, in order
abbrev pub fixed_levels : {O : Type 0} → Search O → List Level
fixed_levels s = take s.depth s.levels.items

abbrev pub steps_left : {O : Type 0} → Search O → ℕ
steps_left s = weight (length s.levels.items) (fixed_levels s) s.fresh

-- the solutions that are still to come
abbrev pub coming_of : {O : Type 0} → (O → IdSet) → Search O → List (List ℕ)
coming_of tuples s = to_come (id_solutions (length s.levels.items) (rests tuples s.operands.tracks.items)) (fixed_levels s) s.fresh

-- the key of the level is one of an id, and won't be tried again
abbrev pub IsTried : Level → Type 0
IsTried f = (f.key.0 < from_of f.from) × (f.key.0 < 2 ^ 32)

module _ {O : Type 0} (depth_of : O → ℕ) (tuples : O → IdSet) where
  -- the levels have each label below their number once, those that tell rows apart first; before each level that was entered
  -- there stands what the ones before it leave, and below it only keys that were tried; the last label of all has a key that
  -- each pattern admits
  pub record AreKept (telling : ℕ → Bool) (levels : List Level) (depth : ℕ) (fresh : Bool) (told : ℕ) (tracks : List (Track O)) (values : List Id) : Type 0 where
    pub within : depth ≤ length levels
    pub labels : IsPermutation (range_with_len 0 (length levels)) (level_labels levels)
    pub first : (j : ℕ) (f : Level) → j < length levels → telling (slice_index_or levels j f).label ≡ nat_lt j told
    pub told_within : told ≤ length levels
    pub patterns : AreTracks depth_of tuples (length levels) (depth + n_fresh fresh) levels tracks
    pub n_values : length values ≡ length levels
    pub keys : (j : ℕ) (f : Level) (k : Id) → j < depth → slice_index_or values (slice_index_or levels j f).label k ≡ (slice_index_or levels j f).key
    pub tried : (j : ℕ) (f : Level) → j + 1 < depth + n_fresh fresh → IsTried (slice_index_or levels j f)
    pub admitted : fresh ≡ true → (last : ℕ) (f : Level) → depth ≡ last + 1 → length levels ≡ last + 1
        → AllAdmitAt tuples tracks last (slice_index_or levels last f).label (slice_index_or levels last f).key.0

  pub record IsKept (s : Search O) : Type 0 where
    pub kept : AreKept (tells s.columns.items s.distinct) s.levels.items s.depth s.fresh s.told s.operands.tracks.items s.values.items
    pub few : length s.levels.items ≤ 96
    pub columns : AllByRecursion (λ v. IfSome v (λ l. l < length s.levels.items)) s.columns.items
    pub room : AreRoom (length s.levels.items) s.operands
    pub joins : AreJoined depth_of tuples s.levels.items s.depth s.operands
    pub n_counts : length s.counts.items ≡ length s.levels.items

-- both are of one query
pub record IsSameQuery {O : Type 0} (tuples : O → IdSet) (s t : Search O) : Type 0 where
  pub n : length t.levels.items ≡ length s.levels.items
  pub rests : rests tuples t.operands.tracks.items ≡ rests tuples s.operands.tracks.items
  pub columns : t.columns.items ≡ s.columns.items
  pub distinct : t.distinct ≡ s.distinct
