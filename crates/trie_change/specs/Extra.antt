-- How many edges a change of a set of triples has to copy because other edges lead to what it changes.
use Rattle.std.specs.Prelude.{ℕ, ◌+◌, ◌*◌, ◌||◌, Bool, cond, not, nat_le}
use Rattle.std.specs.Ordering.{nat_cmp, eq_by_cmp}
use Rattle.std.specs.FinSet as set
use Rattle.hypertrie_model.specs.Folds.{sum_over, marked}
use Rattle.hypertrie_model.specs.IdSets.{IdSet}
use Rattle.hypertrie_model.specs.Shapes.{set_cmp, count2}
use Rattle.hypertrie_model.specs.Slices.{keys, slice}

-- G is the set before the change, and H the set after it
module _ (G H : IdSet) where
  -- another edge leads to the pairs: they are two slices of G or more, or a slice of H
  abbrev pub is_shared : IdSet → Bool
  is_shared P = nat_le 2 (count2 nat_cmp G P) || nat_le 1 (count2 nat_cmp H P)

  -- the keys at a position of G under which the slices of G and H differ
  abbrev pub touched : ℕ → set.FinSet nat_cmp
  touched i = set.retain (keys nat_cmp G i) (λ k. not (eq_by_cmp (set_cmp nat_cmp) (slice nat_cmp G i k) (slice nat_cmp H i k)))

  -- twice the size of a set of pairs that is shared
  abbrev pub shared_edges : IdSet → ℕ
  shared_edges P = cond (is_shared P) (2 * set.len P) 0

  -- that of each slice of G at a position that differs, added up
  abbrev pub extra_at : ℕ → ℕ
  extra_at i = sum_over (marked (touched i)) (λ k _. shared_edges (slice nat_cmp G i k))

  -- and at all three positions
  abbrev pub extra : ℕ
  extra = extra_at 0 + (extra_at 1 + extra_at 2)
