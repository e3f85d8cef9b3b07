-- Which assignments of a list are still to come, where labels are fixed one after another.
use Rattle.std.specs.Prelude.{◌≡◌, ℕ, zero, suc, ◌^◌, ◌&&◌, ◌||◌, Bool, true, false, not, nat_lt, nat_eq, ◌<◌, List, [], ◌∷◌, ◌++◌, length, map, slice_index_or, Option, None, Some, cond}
use Rattle.std.specs.List.{filter, list_any, range_with_len}
use Rattle.std.specs.Ordering.{nat_cmp}
use Rattle.hypertrie_model.specs.Slices.{is_at}
use Rattle.trie_depth.specs.declared.id.Id.{Id}
use Rattle.bag_list.specs.declared.level.Level.{Level}

-- the first key that is still to be tried: past all ids where there is none
abbrev pub from_of : Option Id → ℕ
from_of None = 2 ^ 32
from_of (Some k) = k.0

-- the lesser of two keys, where there are two
abbrev pub lesser_of : Option Id → Option Id → Option Id
lesser_of None b = b
lesser_of (Some x) None = Some x
lesser_of (Some x) (Some y) = cond (nat_lt y.0 x.0) (Some y) (Some x)

-- whether the element of label l is there and below k
abbrev pub is_below : ℕ → ℕ → List ℕ → Bool
is_below l k [] = false
is_below zero k (x ∷ a) = nat_lt x k
is_below (suc l) k (x ∷ a) = is_below l k a

-- those whose label l has k, and those that don't have one below k there
abbrev pub at_key : ℕ → ℕ → List (List ℕ) → List (List ℕ)
at_key l k T = filter (is_at nat_cmp l k) T

abbrev pub from_key : ℕ → ℕ → List (List ℕ) → List (List ℕ)
from_key l k T = filter (λ a. not (is_below l k a)) T

-- those that have the key of each level
abbrev pub within : List (List ℕ) → List Level → List (List ℕ)
within T [] = T
within T (f ∷ fs) = within (at_key f.label f.key.0 T) fs

-- level by level, those that have the keys of the levels before, and at this one a key that is still to be tried
abbrev pub coming : List (List ℕ) → List Level → List (List ℕ)
coming T [] = []
coming T (f ∷ fs) = from_key f.label (from_of f.from) T ++ coming (at_key f.label f.key.0 T) fs

-- and all that have the keys of the levels, where these weren't gone through
abbrev pub to_come : List (List ℕ) → List Level → Bool → List (List ℕ)
to_come T fs fresh = coming T fs ++ cond fresh (within T fs) []

-- whether the assignment has the key of each level
abbrev pub agrees : List Level → List ℕ → Bool
agrees [] a = true
agrees (f ∷ fs) a = is_at nat_cmp f.label f.key.0 a && agrees fs a

abbrev pub level_labels : List Level → List ℕ
level_labels fs = map (λ f. f.label) fs

-- each level has a label below n
abbrev pub AreBelow : ℕ → List Level → Type 0
AreBelow n fs = (i : ℕ) (f : Level) → i < length fs → (slice_index_or fs i f).label < n

-- one level more where nothing below it was gone through
abbrev pub n_fresh : Bool → ℕ
n_fresh true = 1
n_fresh false = 0

-- whether the column has the label
abbrev pub is_label : ℕ → Option ℕ → Bool
is_label l None = false
is_label l (Some m) = nat_eq l m

-- rows that differ in the label differ: under DISTINCT the labels of columns, else all
abbrev pub tells : List (Option ℕ) → Bool → ℕ → Bool
tells columns distinct l = not distinct || list_any (is_label l) columns

-- whether the label is one that tells rows apart, or one that doesn't
abbrev pub is_telling : List (Option ℕ) → Bool → Bool → ℕ → Bool
is_telling columns distinct true l = tells columns distinct l
is_telling columns distinct false l = not (tells columns distinct l)

-- the labels below n that tell rows apart, or those that don't; and all, the former first
abbrev pub labels_telling : List (Option ℕ) → Bool → Bool → ℕ → List ℕ
labels_telling columns distinct telling n = filter (is_telling columns distinct telling) (range_with_len 0 n)

abbrev pub labels_in_order : List (Option ℕ) → Bool → ℕ → List ℕ
labels_in_order columns distinct n = labels_telling columns distinct true n ++ labels_telling columns distinct false n

-- a level was added for each of the former, or of the latter
abbrev pub AddsLevels : List (Option ℕ) → Bool → Bool → ℕ → List Level → List Level → Type 0
AddsLevels columns distinct telling n old now = level_labels now ≡ level_labels old ++ labels_telling columns distinct telling n
