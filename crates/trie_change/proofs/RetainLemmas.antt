-- How many edges are retained where a map at a position is made anew.
use Rattle.std.specs.Prelude.{◌≡◌, ℕ, ◌+◌, ◌*◌, ◌≤◌, Result, Ok, Err, IfOk, OnErr}
use Rattle.std.proofs.Common.{arith}
use Rattle.std.specs.FinMap as map
use Rattle.std.specs.FinSet as set
use Rattle.hypertrie_model.specs.Changes.{after, IsChange}
use Rattle.hypertrie_model.specs.IdSets.{IdSet}
use Rattle.edge_map.specs.Edges.{Edges}
use Rattle.trie_context.specs.declared.tables.Tables.{Tables}
use Rattle.trie_change.specs.declared.change.Change.{Change}
use Rattle.trie_change.specs.Changes.{grows}
use Rattle.trie_change.specs.Rooms.{AreSlicesAt}
use Rattle.trie_change.specs.Sums.{edges_len}
use Rattle.trie_change.proofs.RootLemmas.{len-after_le}

-- the edges of slices of a changed set are no more than its tuples
module _ (u : Tables) (d : ℕ) (change : Change) (H B : IdSet) (may : IsChange (grows change) H B) (b : ℕ) (sized : set.len B ≡ b) (i : ℕ) where
  few_edges : (m : Edges) → AreSlicesAt u d (after (grows change) H B) i m → map.len m ≤ set.len H + b
  few_edges m slices = omega (arith, edges_len u d (after (grows change) H B) i m slices, len-after_le (grows change) H B may, sized)

  pub keys_retained : {E : Type 0} (r : Result Edges E) (first last : ℕ) → IfOk r (λ m. last ≡ first + map.len m) → OnErr r (last ≡ first) → IfOk r (AreSlicesAt u d (after (grows change) H B) i) → last ≤ first + (set.len H + b)
  keys_retained (Ok m) first last ok err slices = omega (arith, ok, few_edges m slices)
  keys_retained (Err e) first last ok err slices = omega (arith, err)

  pub rows_retained : {E : Type 0} (r : Result Edges E) (first last f n : ℕ) → f ≤ set.len H → n ≡ b → IfOk r (λ m. last ≤ first + (2 * (f + n) + map.len m)) → OnErr r (last ≤ first + 2 * (f + n)) → IfOk r (AreSlicesAt u d (after (grows change) H B) i) → last ≤ first + 3 * (set.len H + b)
  rows_retained (Ok m) first last f n few same ok err slices = omega (arith, ok, few_edges m slices, few, same)
  rows_retained (Err e) first last f n few same ok err slices = omega (arith, err, few, same)
