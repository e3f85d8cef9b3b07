-- The size of a set changed by a batch of less than half as many.
use Rattle.std.specs.Prelude.{◌≡◌, ℕ, ◌+◌, ◌*◌, ◌≤◌, refl}
use Rattle.std.proofs.Common.{arith}
use Rattle.std.specs.FinSet as set
use Rattle.hypertrie_model.specs.Changes.{after, IsChange}
use Rattle.hypertrie_model.specs.IdSets.{IdSet}
use Rattle.trie_change.specs.declared.change.Change.{Change}
use Rattle.trie_change.specs.declared.change.Change.TheVariants.{Grow, Shrink}
use Rattle.trie_change.specs.Changes.{grows, size_after}
use Rattle.trie_change.specs.FigureLaws.{size_is}

most_after : (change : Change) (n b : ℕ) → size_after change n b ≤ n + b
most_after Grow n b = omega arith
most_after Shrink n b = omega arith

least_after : (change : Change) (n b : ℕ) → 2 * b + 2 ≤ n → 2 ≤ size_after change n b
least_after Grow n b large = omega arith
least_after Shrink n b large = omega arith

module _ (change : Change) (H B : IdSet) (may : IsChange (grows change) H B) (b : ℕ) (sized : set.len B ≡ b) where
  pub at_most_both : set.len (after (grows change) H B) ≤ set.len H + b
  at_most_both = omega (arith, size_is change H B may (set.len H) b refl sized, most_after change (set.len H) b)

  pub two_left : 2 * b + 2 ≤ set.len H → 2 ≤ set.len (after (grows change) H B)
  two_left large = omega (arith, size_is change H B may (set.len H) b refl sized, least_after change (set.len H) b large)
