-- A batch that is put into an empty graph, and the batch of the tests.
use Rattle.std.specs.Prelude.{◌≡◌, ℕ, ◌≤◌, ◌||◌, true, List, [], ◌∷◌, length, refl}
use Rattle.std.proofs.Common.{sym, ◌∙◌, ap, subst, arith}
use Rattle.std.specs.List.Sorted.{IsStrictlySortedBy}
use Rattle.std.specs.Ordering.{nat_cmp}
use Rattle.std.specs.Cmp.{nat_cmp_total as total}
use Rattle.std.specs.Cmp.Lexicographic.{slice_cmp}
use Rattle.std.specs.FinMap as map
use Rattle.std.specs.FinMap.{nat_cmp-IsAntisymmetric as exact}
use Rattle.std.specs.FinSet as set
use Rattle.hypertrie_model.specs.IdSets.{IdSet}
use Rattle.hypertrie_model.specs.Sets.{has, empty}
use Rattle.hypertrie_model.specs.SetLaws.{same_sets}
use Rattle.hypertrie_model.specs.Changes.{IsChange}
use Rattle.hypertrie_model.specs.ChangeLaws.{has-after_in}
use Rattle.trie_depth.specs.declared.id.Trip.{Trip}
use Rattle.trie_depth.specs.Tuples.{trip_tuple}
use Rattle.trie_context.specs.declared.root.Root.{Root}
use Rattle.trie_context.specs.declared.root.Root.TheVariants.{Empty}
use Rattle.trie_context.specs.declared.tables.Tables.{Tables}
use Rattle.trie_context.specs.Rows.{no_tables, row_of}
use Rattle.trie_context.specs.Holds.{count_of}
use Rattle.trie_context.specs.RowLaws.{empty_at}
use Rattle.trie_context.specs.Roots.{root_set, IsHeld}
use Rattle.trie_change.specs.Batches.{set_of_entries, IsOnce}
use Rattle.trie_change.specs.BatchLaws.{order_once}
use Rattle.trie_change.specs.declared.change.Change.TheVariants.{Grow}
use Rattle.trie_update.specs.Changed.{MayChangeGraph}

-- where no row is, no count is
pub counts_none : (t : Tables) → t ≡ no_tables → (d r : ℕ) → count_of (row_of t d r) ≡ 0
counts_none t is d r = ap (λ u. count_of (row_of u d r)) is ∙ ap count_of (ap (λ m. map.get m r) (empty_at d) ∙ map.get-empty nat_cmp r)

module _ (t : Tables) (root : Root) (A : IdSet) (none : root ≡ Empty) where
  pub all_new : IsChange true (root_set t root) A
  all_new = subst (λ r. IsChange true (root_set t r) A) (sym none) (λ u _. set.contains-empty (slice_cmp nat_cmp) u)

  pub all_put : set.union (root_set t root) A ≡ A
  all_put = ap (λ r. set.union (root_set t r) A) none ∙ same_sets total exact _ _ (λ u. has-after_in total exact (empty nat_cmp) A u ∙ ap (λ b. b || has A u) (set.contains-empty (slice_cmp nat_cmp) u))

-- a batch may be put into empty tables
pub may_grow_empty : (t : Tables) (root : Root) (batch : List Trip) → t ≡ no_tables → root ≡ Empty → IsOnce trip_tuple batch → length batch ≤ 1000 → MayChangeGraph Grow t root batch
may_grow_empty t root batch tables none once few =
    let B = set_of_entries trip_tuple batch in
    let put = ap set.len (all_put t root B none) in
    record {
      held = subst (IsHeld t) (sym none) tt;
      once = once;
      fits = all_new t root B none;
      counts = λ d r. omega (arith, counts_none t tables d r);
      size = omega (arith, once, few, put);
    }

abbrev pub trip : ℕ → ℕ → ℕ → Trip
trip a b c = record { 0 = record { 0 = a }; 1 = record { 0 = b }; 2 = record { 0 = c } }

pub diagonals_once : IsOnce trip_tuple (trip 0 0 0 ∷ trip 0 1 0 ∷ trip 0 1 2 ∷ [])
unfolding IsStrictlySortedBy
diagonals_once = order_once trip_tuple (trip 0 0 0 ∷ trip 0 1 0 ∷ trip 0 1 2 ∷ []) ((refl, (refl, tt)), ((refl, tt), (tt, tt)))
