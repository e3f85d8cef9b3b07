-- The shape of a set of triples: each set of pairs, each set of two or more keys and the set itself, every one once, with the number of slices that it is.
use Rattle.std.specs.Prelude.{◌≡◌, ℕ, ◌+◌, true, cond, nat_le, List, [], ◌∷◌, ◌++◌, map}
use Rattle.std.specs.Ordering.{eq_by_cmp, nat_cmp, on, ordering_then}
use Rattle.std.specs.declared.cmp.Ordering.{Ordering}
use Rattle.std.specs.Cmp.Lexicographic.{slice_cmp}
use Rattle.std.specs.FinSet as set
use Rattle.hypertrie_model.specs.Sets.{TupleSet}
use Rattle.hypertrie_model.specs.Slices.{keys, slice}
use Rattle.hypertrie_model.specs.Folds.{sum_over, marked}

module _ {A : Type 0} (R : A → A → Ordering) where
  -- sets in the order of the lists of their tuples
  abbrev pub set_cmp : TupleSet R → TupleSet R → Ordering
  set_cmp = on set.items (slice_cmp (slice_cmp R))

  -- a finite set of sets of tuples, in which equal sets are one member
  abbrev pub SetOfSets : Type 0
  SetOfSets = set.FinSet set_cmp

  -- the slices of H at position i by the keys there
  unfoldable pub slices : TupleSet R → ℕ → SetOfSets
  slices H i = set.from_list (map (slice R H i) (set.items (keys R H i)))

  -- how many keys at position i have the slice S
  unfoldable pub times : TupleSet R → ℕ → TupleSet R → ℕ
  times H i S = set.len (set.retain (keys R H i) (λ k. eq_by_cmp set_cmp (slice R H i k) S))

  -- the slices of a set of triples
  unfoldable pub two : TupleSet R → SetOfSets
  two G = set.union (slices G 0) (set.union (slices G 1) (slices G 2))

  -- how many pairs of a position and a key there have the slice P
  unfoldable pub count2 : TupleSet R → TupleSet R → ℕ
  count2 G P = times G 0 P + (times G 1 P + times G 2 P)

  -- the slices of a set of pairs that have two or more keys
  unfoldable pub large_slices : TupleSet R → SetOfSets
  large_slices P = set.retain (set.union (slices P 0) (slices P 1)) (λ S. nat_le 2 (set.len S))

  abbrev pub all_large_slices : List (TupleSet R) → SetOfSets
  all_large_slices [] = set.empty
  all_large_slices (P ∷ Ps) = set.union (large_slices P) (all_large_slices Ps)

  -- the slices of two or more keys of all sets of pairs that are slices of G
  unfoldable pub one : TupleSet R → SetOfSets
  one G = all_large_slices (set.items (two G))

  -- how many triples of a set of pairs in two(G), each once, a position of it and a key there have the slice S
  unfoldable pub count1 : TupleSet R → TupleSet R → ℕ
  count1 G S = sum_over (marked (two G)) (λ P _. times P 0 S + times P 1 S)

  -- a row of a shape: a set of tuples of this depth, and how many slices it is
  pub record ShapeRow : Type 0 where
    pub depth : ℕ
    pub tuples : TupleSet R
    pub count : ℕ

  -- by depth, then by set, then by count
  abbrev pub row_cmp : ShapeRow → ShapeRow → Ordering
  row_cmp a b = ordering_then (nat_cmp a.depth b.depth) (ordering_then (set_cmp a.tuples b.tuples) (nat_cmp a.count b.count))

  -- a row of depth d for each of the sets
  abbrev pub rows_of : ℕ → (TupleSet R → ℕ) → SetOfSets → List ShapeRow
  rows_of d count sets = map (λ S. record { depth = d; tuples = S; count = count S }) (set.items sets)

  -- the rows of two(G), of one(G) and of G itself, and no row where G has fewer than two triples
  unfoldable pub shape : TupleSet R → set.FinSet row_cmp
  shape G = cond (nat_le 2 (set.len G)) (set.from_list (record { depth = 3; tuples = G; count = 1 } ∷ (rows_of 2 (count2 G) (two G) ++ rows_of 1 (count1 G) (one G)))) set.empty

  -- shape(G) has the row of this depth, set and count
  abbrev pub InShape : TupleSet R → ℕ → TupleSet R → ℕ → Type 0
  InShape G d S n = set.contains (shape G) (record { depth = d; tuples = S; count = n }) ≡ true
