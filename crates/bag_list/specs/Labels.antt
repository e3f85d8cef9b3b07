-- The labels of a pattern's places, and the positions at which one stands.
use Rattle.std.specs.Prelude.{ℕ, ◌+◌, ◌*◌, not, cond, nat_eq, List, [], ◌∷◌, slice_index_or, Option, None, Some}
use Rattle.std.specs.List.{filter, list_any}
use Rattle.bag_list.specs.declared.labels.Labels.{Labels}

-- the labels of the places that have one
abbrev pub placed : List (Option ℕ) → List ℕ
placed [] = []
placed (None ∷ ps) = placed ps
placed (Some l ∷ ps) = l ∷ placed ps

abbrev pub labels_of : Labels → List ℕ
labels_of ls = placed (ls.0 ∷ ls.1 ∷ ls.2 ∷ [])

-- those of an array of three
abbrev pub array_labels : List (Option ℕ) → List ℕ
array_labels ls = placed (slice_index_or ls 0 None ∷ slice_index_or ls 1 None ∷ slice_index_or ls 2 None ∷ [])

-- the mask with one position before those of the mask b, named where the label l stands there
abbrev pub mask_with : Option ℕ → ℕ → ℕ → ℕ
mask_with None l b = b
mask_with (Some m) l b = cond (nat_eq m l) (2 * b + 1) (2 * b)

-- the positions of the label l
abbrev pub mask_of : ℕ → List ℕ → ℕ
mask_of l [] = 0
mask_of l (m ∷ ls) = cond (nat_eq m l) (2 * mask_of l ls + 1) (2 * mask_of l ls)

-- the label that stands at two places, if one does
abbrev pub doubled : List ℕ → Option ℕ
doubled [] = None
doubled (l ∷ ls) = cond (list_any (nat_eq l) ls) (Some l) (doubled ls)

abbrev pub without : ℕ → List ℕ → List ℕ
without l ls = filter (λ m. not (nat_eq m l)) ls

-- what stands at a place, if it isn't the label l
abbrev pub place_without : ℕ → Option ℕ → Option ℕ
place_without l None = None
place_without l (Some m) = cond (nat_eq m l) None (Some m)
