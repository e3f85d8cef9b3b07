-- The least key from one on, by what a map answers.
use Rattle.std.specs.Prelude.{◌≡◌, ◌≢◌, ℕ, ◌<◌, ◌≤◌, Option, None, Some}
use Rattle.std.proofs.Common.{subst}
use Rattle.std.specs.Ordering.{nat_cmp}
use Rattle.std.specs.FinMap as map
use Rattle.hypertrie_model.specs.IdSets.{IdSet}
use Rattle.hypertrie_model.specs.Sets.{empty}
use Rattle.hypertrie_model.specs.Slices.{slice}
use Rattle.edge_map.specs.declared.edge.Edge.{Edge}
use Rattle.edge_map.specs.Edges.{Edges}
use Rattle.trie_view.specs.Places.{IsThereIf, HasKeysAt}

module _ (H : IdSet) (i : ℕ) (m : Edges) (has : HasKeysAt H i m) (k : ℕ) where
  pub no_edge : map.get m k ≡ None → slice nat_cmp H i k ≡ empty nat_cmp
  no_edge none = subst (IsThereIf (slice nat_cmp H i k)) none (has k)

  pub an_edge : (e : Edge) → map.get m k ≡ Some e → slice nat_cmp H i k ≢ empty nat_cmp
  an_edge e at = subst (IsThereIf (slice nat_cmp H i k)) at (has k)
