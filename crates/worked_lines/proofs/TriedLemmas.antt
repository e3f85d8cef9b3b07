-- What the tests owe to the calls that they make.
use Rattle.std.specs.Prelude.{◌≡◌, ℕ, zero, suc, ◌<◌, ◌&&◌, ◌||◌, true, nat_lt, List, [], ◌∷◌, map, refl, IsSome}
use Rattle.std.proofs.Common.{sym, ◌∙◌, ap, subst, arith}
use Rattle.std.proofs.lemmas.Bool.Decides.{nat_tests}
use Rattle.std.proofs.lemmas.Cmp.{lists_total, nat_cmp_total as total}
use Rattle.std.specs.Cmp.Lexicographic.{slice_cmp}
use Rattle.std.specs.FinMap as finite
use Rattle.std.specs.FinMap.{nat_cmp-IsAntisymmetric as exact}
use Rattle.std.specs.FinSet.{slice_cmp-IsAntisymmetric}
use Rattle.std.specs.FinSet as set
use Rattle.std.specs.List.{list_any, list_all}
use Rattle.std.specs.List.Sorted.{IsStrictlySortedBy}
use Rattle.std.specs.Ordering.{nat_cmp, eq_by_cmp}
use Rattle.hypertrie_model.specs.IdSets.{IdSet}
use Rattle.hypertrie_model.specs.Sets.{has, empty}
use Rattle.hypertrie_model.specs.SetLaws.{and_both, or_cases, tied-is}
use Rattle.hypertrie_model.specs.Changes.{IsChange}
use Rattle.trie_depth.specs.declared.id.Trip.{Trip}
use Rattle.trie_depth.specs.Tuples.{trip_tuple}
use Rattle.trie_context.specs.declared.root.Root.{Root}
use Rattle.trie_context.specs.declared.root.Root.TheVariants.{Empty}
use Rattle.trie_context.specs.declared.tables.Tables.{Tables}
use Rattle.trie_context.specs.Rows.{no_tables, row_of}
use Rattle.trie_context.specs.RowLaws.{empty_at}
use Rattle.trie_context.specs.Holds.{count_of, holds_of}
use Rattle.trie_context.specs.Roots.{root_set, root_hold}
use Rattle.trie_context.specs.RootShape.{OnlyRootHeld}
use Rattle.trie_change.specs.Batches.{set_of_entries, IsOnce}
use Rattle.trie_change.specs.BatchLaws.{order_once}
use Rattle.term_dict.specs.Dict.{Terms}
use Rattle.graph_image.specs.Images.{IsKnown, AreKnown}
use Rattle.worked_lines.specs.Tried.{is_below_four}

-- ---- an empty graph

no_count : (d r : ℕ) → count_of (row_of no_tables d r) ≡ 0
no_count d r = ap (λ m. count_of (finite.get m r)) (empty_at d) ∙ ap count_of (finite.get-empty nat_cmp r)

module _ (t : Tables) (tables : t ≡ no_tables) (root : Root) (none : root ≡ Empty) where
  pub counts_none : (d r : ℕ) → count_of (row_of t d r) ≡ 0
  counts_none d r = ap (λ u. count_of (row_of u d r)) tables ∙ no_count d r

  pub nothing_held : OnlyRootHeld t root
  nothing_held d r = subst (λ x. holds_of t d r ≡ root_hold x d r) (sym none) (let c = counts_none d r in omega arith)

  pub set_none : root_set t root ≡ empty nat_cmp
  set_none = ap (root_set t) none

  pub all_new : (B : IdSet) → IsChange true (root_set t root) B
  all_new B u there = ap (λ S. has S u) set_none ∙ set.contains-empty (slice_cmp nat_cmp) u

  pub union_none : (B : IdSet) → set.union (root_set t root) B ≡ B
  union_none B = set.same_set (lists_total total) (slice_cmp-IsAntisymmetric exact) (set.union (root_set t root) B) B (λ u.
      set.contains-union (lists_total total) (root_set t root) B u ∙ ap (λ b. b || has B u) (ap (λ S. has S u) set_none ∙ set.contains-empty (slice_cmp nat_cmp) u))

-- ---- the first four Ids

module _ (terms : Terms) (zero_there : IsSome (finite.get terms 0)) (one_there : IsSome (finite.get terms 1)) (two_there : IsSome (finite.get terms 2)) (three_there : IsSome (finite.get terms 3)) where
  below_there : (id : ℕ) → nat_lt id 4 ≡ true → IsSome (finite.get terms id)
  below_there zero lt = zero_there
  below_there (suc zero) lt = one_there
  below_there (suc (suc zero)) lt = two_there
  below_there (suc (suc (suc zero))) lt = three_there
  below_there (suc (suc (suc (suc id)))) lt = absurd (let f : suc (suc (suc (suc id))) < 4 = grind (arith, nat_tests) in omega arith)

  trip_known : (e : Trip) → is_below_four e ≡ true → IsKnown terms (trip_tuple e)
  trip_known e below =
      let first = and_both (nat_lt e.0.0 4) (nat_lt e.1.0 4 && nat_lt e.2.0 4) below in
      let rest = and_both (nat_lt e.1.0 4) (nat_lt e.2.0 4) first.1 in
      record { s = e.0.0; p = e.1.0; o = e.2.0; is = refl; subject = below_there e.0.0 first.0; predicate = below_there e.1.0 rest.0; object = below_there e.2.0 rest.1 }

  along : (es : List Trip) → list_all is_below_four es ≡ true → (u : List ℕ) → list_any (eq_by_cmp (slice_cmp nat_cmp) u) (map trip_tuple es) ≡ true → IsKnown terms u
  along [] below u e = absurd (let f : ⊥ = cc in f)
  along (t ∷ es) below u e =
      let both = and_both (is_below_four t) (list_all is_below_four es) below in
      or_cases (eq_by_cmp (slice_cmp nat_cmp) u (trip_tuple t)) (list_any (eq_by_cmp (slice_cmp nat_cmp) u) (map trip_tuple es)) e (IsKnown terms u)
      (λ here. subst (IsKnown terms) (sym (tied-is (slice_cmp-IsAntisymmetric exact) u (trip_tuple t) here)) (trip_known t both.0))
      (along es both.1 u)

  pub entries_known : (es : List Trip) → list_all is_below_four es ≡ true → AreKnown terms (set_of_entries trip_tuple es)
  entries_known es below u there = along es below u (sym (set.contains-from_list (lists_total total) (map trip_tuple es) u) ∙ there)

-- ---- batches

abbrev trip : ℕ → ℕ → ℕ → Trip
trip a b c = record { 0 = record { 0 = a }; 1 = record { 0 = b }; 2 = record { 0 = c } }

pub objects_once : IsOnce trip_tuple (trip 0 1 2 ∷ trip 0 1 3 ∷ [])
unfolding IsStrictlySortedBy
objects_once = order_once trip_tuple (trip 0 1 2 ∷ trip 0 1 3 ∷ []) ((refl, tt), (tt, tt))

pub chain_once : IsOnce trip_tuple (trip 0 1 2 ∷ trip 1 2 3 ∷ [])
unfolding IsStrictlySortedBy
chain_once = order_once trip_tuple (trip 0 1 2 ∷ trip 1 2 3 ∷ []) ((refl, tt), (tt, tt))

pub three_once : IsOnce trip_tuple (trip 0 1 2 ∷ trip 0 1 3 ∷ trip 2 1 0 ∷ [])
unfolding IsStrictlySortedBy
three_once = order_once trip_tuple (trip 0 1 2 ∷ trip 0 1 3 ∷ trip 2 1 0 ∷ []) ((refl, (refl, tt)), ((refl, tt), (tt, tt)))

pub alone_once : IsOnce trip_tuple (trip 3 1 2 ∷ [])
unfolding IsStrictlySortedBy
alone_once = order_once trip_tuple (trip 3 1 2 ∷ []) (tt, tt)
