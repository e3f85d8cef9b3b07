-- The patterns of a search, and what is gathered of them.
use Rattle.std.specs.Prelude.{ℕ, ◌+◌, ◌<◌, ◌≡◌, ◌≢◌, List, length, slice_index_or}
use Rattle.hypertrie_model.specs.IdSets.{IdSet}
use Rattle.bag_list.specs.declared.join.Join.{Join}
use Rattle.bag_list.specs.declared.level.Level.{Level}
use Rattle.bag_list.specs.declared.operands.Operands.{Operands}
use Rattle.bag_list.specs.declared.track.Track.{Track}
use Rattle.bag_list.specs.Joins.{AllHaveRoom, HasRoom, IsJoin}
use Rattle.bag_list.specs.Tracks.{AllAdmitAt, AreCounted, AreFixed, AreParts, AreRoomy, AreSameTo}

-- there is room for an operand of each pattern, at each of n levels and for the labels that a key is looked for through
pub record AreRoom {O : Type 0} (n : ℕ) (s : Operands O) : Type 0 where
  pub number : length s.joins.items ≡ n
  pub joins : AllHaveRoom (length s.tracks.items) n s.joins.items
  pub other : HasRoom (length s.tracks.items) s.other
  pub behind : HasRoom (length s.tracks.items) s.behind

module _ {O : Type 0} (depth_of : O → ℕ) (tuples : O → IdSet) where
  -- so many levels are fixed, and one more can be
  pub record AreReady (depth : ℕ) (s : Operands O) : Type 0 where
    pub low : depth < 96
    pub within : depth < length s.joins.items
    pub room : AreRoom (length s.joins.items) s
    pub roomy : AreRoomy (depth + 1) s.tracks.items
    pub counted : AreCounted depth s.tracks.items
    pub parts : AreParts depth_of tuples depth s.tracks.items

  -- what so many levels leave stays, and what was gathered for levels
  pub record IsKeptTo (depth : ℕ) (s t : Operands O) : Type 0 where
    pub same : AreSameTo depth s.tracks.items t.tracks.items
    pub joins : t.joins ≡ s.joins
    pub ready : AreReady depth t

  -- what has the label was gathered for each of the first levels
  abbrev pub AreJoined : List Level → ℕ → Operands O → Type 0
  AreJoined levels depth s = (i : ℕ) (f : Level) (j : Join O) → i < depth → IsJoin depth_of tuples s.tracks.items i (slice_index_or levels i f).label (slice_index_or s.joins.items i j)

  -- what has the label l at this depth was gathered there
  abbrev pub IsOpened : List (Track O) → ℕ → ℕ → List (Join O) → Type 0
  IsOpened tracks depth l joins = (j : Join O) → IsJoin depth_of tuples tracks depth l (slice_index_or joins depth j)

  -- the same for the label of the level there
  abbrev pub IsOpenAt : List Level → ℕ → Operands O → Type 0
  IsOpenAt levels depth s = (f : Level) (j : Join O) → IsJoin depth_of tuples s.tracks.items depth (slice_index_or levels depth f).label (slice_index_or s.joins.items depth j)

  -- the label of the level is fixed at its key
  abbrev pub IsEntered : ℕ → Level → Operands O → Operands O → Type 0
  IsEntered depth f s t = AreFixed depth_of tuples depth f.label f.key.0 s.tracks.items t.tracks.items × AreCounted (depth + 1) t.tracks.items

-- the others are as before
abbrev pub AreSameBut : {O : Type 0} → ℕ → List (Join O) → List (Join O) → Type 0
AreSameBut depth old now = (i : ℕ) (j : Join _) → i ≢ depth → slice_index_or now i j ≡ slice_index_or old i j

-- each pattern admits the key of the level at its label
abbrev pub CanEnter : {O : Type 0} → (O → IdSet) → ℕ → Level → Operands O → Type 0
CanEnter tuples depth f s = AllAdmitAt tuples s.tracks.items depth f.label f.key.0
