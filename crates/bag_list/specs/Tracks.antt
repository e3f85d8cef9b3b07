-- What is left of a pattern while labels are fixed.
use Rattle.std.specs.Prelude.{◌≡◌, ◌≢◌, ℕ, zero, suc, ◌+◌, ◌-◌, ◌^◌, ◌<◌, ◌≤◌, true, List, [], ◌∷◌, length, map, take, slice_index_or, Option, None, Some, IfSome}
use Rattle.std.specs.List.{AllByRecursion}
use Rattle.std.specs.Ordering.{nat_cmp}
use Rattle.hypertrie_model.specs.IdSets.{IdSet}
use Rattle.hypertrie_model.specs.Sets.{has, empty, single}
use Rattle.hypertrie_model.specs.Slices.{at, is_at}
use Rattle.trie_depth.specs.Operands.{Admits}
use Rattle.bag_model.specs.Solutions.{Rest, image}
use Rattle.bag_list.specs.declared.level.Level.{Level}
use Rattle.bag_list.specs.declared.track.Part.{Part}
use Rattle.bag_list.specs.declared.track.Start.{Start}
use Rattle.bag_list.specs.declared.track.Track.{Track}
use Rattle.bag_list.specs.Labels.{array_labels, doubled, labels_of, mask_of, without}
use Rattle.bag_list.specs.Levels.{agrees}

-- the labels that the levels don't fix
abbrev pub unfixed : List Level → List ℕ → List ℕ
unfixed [] ls = ls
unfixed (f ∷ fs) ls = unfixed fs (without f.label ls)

-- what is left of a pattern once so many of its labels are fixed
abbrev pub slot_of : {O : Type 0} → Track O → ℕ → Part O
slot_of t zero = t.start
slot_of t (suc zero) = t.one
slot_of t (suc (suc zero)) = t.two
slot_of t (suc (suc (suc h))) = t.three

-- how many of its labels are fixed after so many levels
abbrev pub height_at : {O : Type 0} → Track O → ℕ → ℕ
height_at t j = slice_index_or t.heights.items j 0

-- what is left of it after no level, after one, and so on
unfoldable pub parts_of : {O : Type 0} → Track O → List (Part O)
parts_of t = map (slot_of t) t.heights.items

-- no level up to this one has more of its labels fixed, and with those that are left there they are three at most
pub record IsCounted {O : Type 0} (depth : ℕ) (t : Track O) : Type 0 where
  pub rises : (j : ℕ) → j ≤ depth → height_at t j ≤ height_at t depth
  pub few : (p : Part O) → height_at t depth + length (labels_of (slice_index_or (parts_of t) depth p).labels) ≤ 3

-- the same of each pattern
abbrev pub AreCounted : {O : Type 0} → ℕ → List (Track O) → Type 0
AreCounted depth tracks = (i : ℕ) (t : Track _) → i < length tracks → IsCounted depth (slice_index_or tracks i t)

-- what is left of a pattern after so many levels
abbrev pub part_at : {O : Type 0} → List (Track O) → ℕ → ℕ → Track O → Part O → Part O
part_at tracks depth i t p = slice_index_or (parts_of (slice_index_or tracks i t)) depth p

-- t has the same start as s, and the same parts up to this depth
pub record IsSameTo {O : Type 0} (depth : ℕ) (s t : Track O) : Type 0 where
  pub start : t.start ≡ s.start
  pub room : length (parts_of t) ≡ length (parts_of s)
  pub heights : (j : ℕ) → j ≤ depth → height_at t j ≡ height_at s j
  pub parts : (j : ℕ) (p : Part O) → j ≤ depth → slice_index_or (parts_of t) j p ≡ slice_index_or (parts_of s) j p

-- the patterns are as many, and each is the same up to this depth
pub record AreSameTo {O : Type 0} (depth : ℕ) (old now : List (Track O)) : Type 0 where
  pub number : length now ≡ length old
  pub each : (i : ℕ) (t : Track O) → i < length old → IsSameTo depth (slice_index_or old i t) (slice_index_or now i t)

-- each pattern has a place for what is left of it after so many levels
abbrev pub AreRoomy : {O : Type 0} → ℕ → List (Track O) → Type 0
AreRoomy depth tracks = (i : ℕ) (t : Track _) → i < length tracks → depth < length (parts_of (slice_index_or tracks i t))

-- some start has no operand
abbrev pub HasEmpty : {O : Type 0} → List (Start O) → Type 0
HasEmpty starts = (i : ℕ) × (i < length starts) × ((s : Start _) → (slice_index_or starts i s).op ≡ None)

-- the set of an operand where such labels are left: without any, the one tuple of no key, whatever the operand is
abbrev pub set_with : List ℕ → IdSet → IdSet
set_with [] H = single nat_cmp []
set_with (l ∷ ls) H = H

module _ {O : Type 0} (tuples : O → IdSet) where
  abbrev pub rest_of : Part O → Rest nat_cmp
  rest_of p = record { tuples = tuples p.op; labels = labels_of p.labels }

  -- the patterns as they were before a label was fixed
  abbrev pub rests : List (Track O) → List (Rest nat_cmp)
  rests tracks = map (λ t. rest_of t.start) tracks

  -- what the part stands for
  abbrev pub part_set : Part O → IdSet
  part_set p = set_with (labels_of p.labels) (tuples p.op)

  -- some key is left for k at the label l, if it has the label
  abbrev pub AdmitsAt : ℕ → Part O → ℕ → Type 0
  AdmitsAt l p k = 1 ≤ mask_of l (labels_of p.labels) → Admits (tuples p.op) (mask_of l (labels_of p.labels)) k

  -- the same of what so many levels leave of a pattern
  abbrev pub AdmitsIn : ℕ → ℕ → Track O → ℕ → Type 0
  AdmitsIn depth l t k = (p : Part O) → AdmitsAt l (slice_index_or (parts_of t) depth p) k

  -- each pattern that has the label l after so many levels admits k there
  abbrev pub AllAdmitAt : List (Track O) → ℕ → ℕ → ℕ → Type 0
  AllAdmitAt tracks depth l k = (i : ℕ) (t : Track O) (p : Part O) → i < length tracks → AdmitsAt l (part_at tracks depth i t p) k

  -- a label of the part has no key there
  pub record LacksKey (p : Part O) : Type 0 where
    pub label : ℕ
    pub there : 1 ≤ mask_of label (labels_of p.labels)
    pub none : (k : ℕ) → AdmitsAt label p k → ⊥

  -- the same of a pattern before a label is fixed, and of some pattern
  abbrev pub LacksKeyIn : Track O → Type 0
  LacksKeyIn t = (p : Part O) → LacksKey (slice_index_or (parts_of t) 0 p)

  abbrev pub SomeLacksKey : List (Track O) → Type 0
  SomeLacksKey tracks = (i : ℕ) × (i < length tracks) × ((t : Track O) → LacksKeyIn (slice_index_or tracks i t))

  -- the label that stands at two places of the part, if one does, has a key there
  abbrev pub HasDoubled : Part O → Type 0
  HasDoubled p = IfSome (doubled (labels_of p.labels)) (λ l. (k : ℕ) × AdmitsAt l p k)

  -- the same of a pattern before a label is fixed, and of every pattern
  abbrev pub HasDoubledIn : Track O → Type 0
  HasDoubledIn t = (p : Part O) → HasDoubled (slice_index_or (parts_of t) 0 p)

  abbrev pub AllHaveDoubled : List (Track O) → Type 0
  AllHaveDoubled tracks = (i : ℕ) (t : Track O) → i < length tracks → HasDoubledIn (slice_index_or tracks i t)

  -- the assignment gives each pattern, as it is after so many levels, one of its tuples
  abbrev pub AllHold : List (Track O) → ℕ → List ℕ → Type 0
  AllHold tracks depth a = (i : ℕ) (t : Track O) (p : Part O) → i < length tracks → has (part_set (part_at tracks depth i t p)) (image a (labels_of (part_at tracks depth i t p).labels)) ≡ true

  -- what so many levels leave has a solution of n ids with k at the label l
  pub record HasSolutionAt (n : ℕ) (tracks : List (Track O)) (depth l k : ℕ) : Type 0 where
    pub solution : List ℕ
    pub long : length solution ≡ n
    pub ids : AllByRecursion (λ x. x < 2 ^ 32) solution
    pub key : at l solution ≡ Some k
    pub holds : AllHold tracks depth solution

  -- the set of a start, empty where it has no operand
  abbrev pub start_set : Option O → IdSet
  start_set None = empty nat_cmp
  start_set (Some o) = tuples o

  abbrev pub rests_of : List (Start O) → List (Rest nat_cmp)
  rests_of starts = map (λ s. record { tuples = start_set s.op; labels = array_labels s.labels }) starts

  -- the patterns are those of the starts
  abbrev pub HaveStarts : List (Start O) → List (Track O) → Type 0
  HaveStarts starts tracks = rests tracks ≡ rests_of starts

module _ {O : Type 0} (depth_of : O → ℕ) (tuples : O → IdSet) where
  -- where a label is left, the operand has a position for each; and there is some tuple
  pub record IsPart (p : Part O) : Type 0 where
    pub deep : 1 ≤ length (labels_of p.labels) → depth_of p.op ≡ length (labels_of p.labels)
    pub some : part_set tuples p ≢ empty nat_cmp

  -- something is left of the pattern after so many levels
  abbrev pub IsPartIn : ℕ → Track O → Type 0
  IsPartIn depth t = (p : Part O) → IsPart (slice_index_or (parts_of t) depth p)

  -- something is left of each pattern after so many levels
  abbrev pub AreParts : ℕ → List (Track O) → Type 0
  AreParts depth tracks = (i : ℕ) (t : Track O) (p : Part O) → i < length tracks → IsPart (part_at tracks depth i t p)

  -- r is what is left of p where the label l has the key k
  pub record IsFixed (l k : ℕ) (p r : Part O) : Type 0 where
    pub part : IsPart r
    pub labels : labels_of r.labels ≡ without l (labels_of p.labels)
    pub image : (a : List ℕ) → is_at nat_cmp l k a ≡ true → has (part_set tuples r) (image a (labels_of r.labels)) ≡ has (part_set tuples p) (image a (labels_of p.labels))

  -- t has one level deeper what is left of s where the label l has the key k
  abbrev pub IsFixedIn : ℕ → ℕ → ℕ → Track O → Track O → Type 0
  IsFixedIn depth l k s t = (p : Part O) → IsFixed l k (slice_index_or (parts_of s) depth p) (slice_index_or (parts_of t) (depth + 1) p)

  -- now is what is left of each pattern one level deeper, where the label l has the key k
  abbrev pub AreFixed : ℕ → ℕ → ℕ → List (Track O) → List (Track O) → Type 0
  AreFixed depth l k old now = (i : ℕ) (t : Track O) (p : Part O) → i < length old → IsFixed l k (part_at old depth i t p) (part_at now (depth + 1) i t p)

  -- p is what the keys of the levels leave of s
  pub record IsLeft (fs : List Level) (s p : Part O) : Type 0 where
    pub part : IsPart p
    pub labels : labels_of p.labels ≡ unfixed fs (labels_of s.labels)
    pub image : (a : List ℕ) → agrees fs a ≡ true → has (part_set tuples p) (image a (labels_of p.labels)) ≡ has (tuples s.op) (image a (labels_of s.labels))

  -- before each of the first m levels, and n in all, there stands what the levels before it leave; what all n leave is nowhere
  pub record IsTrack (n m : ℕ) (fs : List Level) (t : Track O) : Type 0 where
    pub room : length (parts_of t) ≡ n + 1
    pub below : AllByRecursion (λ l. l < n) (labels_of t.start.labels)
    pub counted : (j : ℕ) → j < m → j ≤ n - 1 → IsCounted j t
    pub left : (j : ℕ) (p : Part O) → j < m → j ≤ n - 1 → IsLeft (take j fs) t.start (slice_index_or (parts_of t) j p)

  -- the operand, if there is one, has a position for each label, and some tuple; the labels are below n
  pub record IsStart (n : ℕ) (s : Start O) : Type 0 where
    pub below : AllByRecursion (λ l. l < n) (array_labels s.labels)
    pub deep : IfSome s.op (λ o. depth_of o ≡ length (array_labels s.labels))
    pub some : IfSome s.op (λ o. tuples o ≢ empty nat_cmp)

  -- each start is one
  abbrev pub AllAreStarts : ℕ → List (Start O) → Type 0
  AllAreStarts n starts = (i : ℕ) (s : Start O) → i < length starts → IsStart n (slice_index_or starts i s)

  abbrev pub AreTracks : ℕ → ℕ → List Level → List (Track O) → Type 0
  AreTracks n m fs tracks = (i : ℕ) (t : Track O) → i < length tracks → IsTrack n m fs (slice_index_or tracks i t)
