-- The operands that have a label, and the keys that they have in common.
use Rattle.std.specs.Prelude.{◌≡◌, ℕ, ◌<◌, ◌≤◌, List, length, slice_index_or, take}
use Rattle.hypertrie_model.specs.IdSets.{IdSet}
use Rattle.trie_depth.specs.declared.mask.Mask.{Mask}
use Rattle.key_join.specs.Common.{AllAdmit, AllFit}
use Rattle.bag_list.specs.declared.join.Join.{Join}
use Rattle.bag_list.specs.declared.track.Track.{Track}
use Rattle.bag_list.specs.Tracks.{AllAdmitAt}

-- there is room for n operands
pub record HasRoom {O : Type 0} (n : ℕ) (j : Join O) : Type 0 where
  pub ops : length j.ops.items ≡ n
  pub masks : length j.masks.items ≡ n

-- the same at each of m levels
abbrev pub AllHaveRoom : {O : Type 0} → ℕ → ℕ → List (Join O) → Type 0
AllHaveRoom n m joins = (i : ℕ) (j : Join _) → i < m → HasRoom n (slice_index_or joins i j)

-- the mask of each operand fits its depth
pub record IsJoinable {O : Type 0} (depth_of : O → ℕ) (j : Join O) : Type 0 where
  pub ops : j.count ≤ length j.ops.items
  pub masks : j.count ≤ length j.masks.items
  pub fit : AllFit depth_of (take j.count j.ops.items) (take j.count j.masks.items)

-- each of the first operands admits k
abbrev pub AllTaken : {O : Type 0} → (O → IdSet) → ℕ → List O → List Mask → ℕ → Type 0
AllTaken tuples count ops masks k = AllAdmit tuples (take count ops) (take count masks) k

-- each of the operands admits k
abbrev pub AllJoined : {O : Type 0} → (O → IdSet) → Join O → ℕ → Type 0
AllJoined tuples j k = AllTaken tuples j.count j.ops.items j.masks.items k

-- the operands are those that have the label l after so many levels
pub record IsJoin {O : Type 0} (depth_of : O → ℕ) (tuples : O → IdSet) (tracks : List (Track O)) (depth l : ℕ) (j : Join O) : Type 0 where
  pub joinable : IsJoinable depth_of j
  pub asked : (k : ℕ) → AllAdmitAt tuples tracks depth l k → AllJoined tuples j k
  pub whole : (k : ℕ) → AllJoined tuples j k → AllAdmitAt tuples tracks depth l k
