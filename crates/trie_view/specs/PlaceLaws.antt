-- What holds of a place in kept tables: its depth, its ids, and the places of its slices.
use Rattle.std.specs.Prelude.{◌≡◌, ◌≢◌, ℕ, zero, suc, ◌-◌, ◌<◌, ◌≤◌, ◌^◌, Bool, true, false, List, [], ◌∷◌, length, slice_index, refl, Option, None, Some, IfSome, IsSome}
use Rattle.std.proofs.Common.{sym, ◌∙◌, ap, subst, arith}
use Rattle.std.proofs.Math.Logic.{∥∥₁_elim, ∥∥₁_prop}
use Rattle.std.proofs.lemmas.List.Elements.{All-from_recursion, recursion_from_All}
use Rattle.std.specs.Coded.{Coded-set, coded_ℕ, le_prop}
use Rattle.std.specs.List.{All, AllByRecursion, insert, remove}
use Rattle.std.specs.Ordering.{nat_cmp}
use Rattle.std.specs.Cmp.{nat_cmp_total as total}
use Rattle.std.specs.Cmp.Lexicographic.{slice_cmp}
use Rattle.std.specs.FinMap as map
use Rattle.std.specs.FinMap.{nat_cmp-IsAntisymmetric as exact}
use Rattle.std.specs.FinSet as set
use Rattle.hypertrie_model.specs.IdSets.{IdSet}
use Rattle.hypertrie_model.specs.Sets.{has, empty, single, HasDepth}
use Rattle.hypertrie_model.specs.SingleLaws.{only_member, own_member}
use Rattle.hypertrie_model.specs.Slices.{is_at, slice}
use Rattle.hypertrie_model.specs.SliceLaws.{has-slice, has-slice_short, by_length, keys-has, key-slice}
use Rattle.hypertrie_model.specs.Unions.{union_over}
use Rattle.hypertrie_model.specs.UnionSizes.{set_under, slice-union_over}
use Rattle.trie_depth.specs.declared.id.Id.{Id}
use Rattle.trie_depth.specs.declared.id.Pair.{Pair}
use Rattle.trie_depth.specs.declared.id.Trip.{Trip}
use Rattle.trie_depth.specs.Operands.{IsIdTuple}
use Rattle.trie_depth.specs.Tuples.{id_tuple, pair_tuple, trip_tuple, pair_key, pair_without, trip_key, trip_without}
use Rattle.trie_depth.specs.TupleLaws.{pair_tuple_key, pair_tuple_without, trip_tuple_key, trip_tuple_without}
use Rattle.edge_map.specs.declared.edge.Edge.{Edge}
use Rattle.edge_map.specs.declared.edge.Edge.TheVariants.{Key as ToKey, Node as ToRow}
use Rattle.edge_map.specs.Edges.{Edges}
use Rattle.node_table.specs.Table.{Row}
use Rattle.trie_node.specs.declared.node.Node.{Node}
use Rattle.trie_node.specs.declared.node.Node.TheVariants.{Single, Full}
use Rattle.trie_node.specs.Sets.{set_over, map_at, key_set_of}
use Rattle.trie_node.specs.Forms.{IsPairEdge, IsTripleEdge, StandsFor}
use Rattle.trie_context.specs.declared.tables.Tables.{Tables}
use Rattle.trie_context.specs.Rows.{row_of, row_set, node_set, set_of}
use Rattle.trie_context.specs.Kept.{IsNode, AreKept}
use Rattle.trie_context.specs.RowLaws.{row_there}
use Rattle.trie_context.specs.EdgeLaws.{filled_there, edge_there}
use Rattle.trie_context.specs.DepthLaws.{single_deep, union_deep, node_deep, set_deep}
use Rattle.trie_view.specs.declared.location.Location.{Location}
use Rattle.trie_view.specs.declared.location.Location.TheVariants.{Triple, Triples, Pair as OnePair, Pairs, Key, Keys, There}
use Rattle.trie_view.specs.Places.{place_depth, place_set, IsFull, IsFormed, HasIds, IsSub, IsPlaceOf, IsPairsOf, edge_at}
use Rattle.trie_view.specs.EdgesAt.{sets_prop, single_slice, single_other, single_filled, triples_edge, pairs_edge, map_keys}

pub numbers_prop : (m n : ℕ) → IsProp (m ≡ n)
numbers_prop m n = Coded-set coded_ℕ m n

pub place_prop : (t : Tables) (d : ℕ) (S : IdSet) (o : Option Location) → IsProp (IsPlaceOf t d S o)
place_prop t d S None = sets_prop S (empty nat_cmp)
place_prop t d S (Some p) = hlevel (sets_prop, numbers_prop)

ids_prop : (u : List ℕ) → IsProp (IsIdTuple u)
ids_prop u = hlevel le_prop

pub depth_high : (p : Location) → place_depth p ≤ 3
depth_high (Triple e) = omega arith
depth_high (Triples n) = omega arith
depth_high (OnePair e) = omega arith
depth_high (Pairs n) = omega arith
depth_high (Key k) = omega arith
depth_high (Keys m) = omega arith
depth_high There = omega arith

-- ids

-- what is left of a tuple of ids
all_without : (u : List ℕ) (i k : ℕ) → i ≤ length u → AllByRecursion (λ x. x < 2 ^ 32) (insert u i k) → AllByRecursion (λ x. x < 2 ^ 32) u
all_without u zero k le all = all.1
all_without [] (suc i) k le all = absurd (omega arith)
all_without (x ∷ u) (suc i) k le all = (all.0, all_without u i k (omega arith) all.1)

pub slice_ids : (H : IdSet) (i k : ℕ) → HasIds H → HasIds (slice nat_cmp H i k)
slice_ids H i k ids u there = by_length total exact _ i u
    (λ le. All-from_recursion (λ x. x < 2 ^ 32) u (all_without u i k le (recursion_from_All (λ x. x < 2 ^ 32) (insert u i k) (ids (insert u i k) (sym (has-slice total exact H i k u le) ∙ there)))))
    (λ gt. let f : false ≡ true = sym (has-slice_short total exact H i k u gt) ∙ there in absurd (let n : ⊥ = cc in n))

pub single_ids : (t : List ℕ) → IsIdTuple t → HasIds (single nat_cmp t)
single_ids t small u there = subst IsIdTuple (sym (only_member total exact t u there)) small

module _ (t : Tables) where
  pub place_deep : (p : Location) → IsSub t p → HasDepth (place_depth p) (place_set t p)
  place_deep (Triple e) s = single_deep (trip_tuple e)
  place_deep (Triples n) s = node_deep s.mixed 2 (set_of t 2) (set_deep s.mixed t s.kept 2) n.now s.formed
  place_deep (OnePair e) s = single_deep (pair_tuple e)
  place_deep (Pairs n) s = node_deep s.mixed 1 (set_of t 1) (set_deep s.mixed t s.kept 1) n.now s.formed.0
  place_deep (Key k) s = single_deep (id_tuple k)
  place_deep (Keys m) s = union_deep 0 m.now (λ _. single nat_cmp []) (λ k e at. single_deep [])
  place_deep There s = single_deep []

  -- the same of a slice, of which the fact alone is known
  pub known_deep : (p : Location) → ∥ IsSub t p ∥₁ → HasDepth (place_depth p) (place_set t p)
  known_deep p known u there = ∥∥₁_elim known (numbers_prop (length u) (place_depth p)) (λ s. place_deep p s u there)

  pub known_ids : (p : Location) → ∥ IsSub t p ∥₁ → HasIds (place_set t p)
  known_ids p known u there = ∥∥₁_elim known (ids_prop u) (λ s. s.small u there)

  -- a place that stands for a slice
  placed : (place : Location) → IsSub t place → (i k d : ℕ) (p : Location) → slice nat_cmp (place_set t place) i k ≢ empty nat_cmp → place_set t p ≡ slice nat_cmp (place_set t place) i k → place_depth p ≡ d
      → ((mixed : ℕ → ℕ → ℕ → ℕ → ℕ) → AreKept mixed t → IsFormed mixed t p) → IsPlaceOf t d (slice nat_cmp (place_set t place) i k) (Some p)
  placed place s i k d p some is deep formed = (
    some,
    is,
    deep,
    ∣ record {
      mixed = s.mixed;
      kept = s.kept;
      formed = formed s.mixed s.kept;
      small = subst HasIds (sym is) (slice_ids (place_set t place) i k s.small);
    } ∣₁,
  )

  filled_by : (S : IdSet) (v : List ℕ) → S ≡ single nat_cmp v → S ≢ empty nat_cmp
  filled_by S v is none = single_filled v (sym is ∙ none)

  -- the slices of a single tuple

  pub triple_slice : (e : Trip) → IsSub t (Triple e) → (i k : ℕ) → i < 3 → (trip_key e i).0 ≡ k → IsPlaceOf t 2 (slice nat_cmp (single nat_cmp (trip_tuple e)) i k) (Some (OnePair (trip_without e i)))
  triple_slice e s i k lt is =
      let rest = single_slice (trip_tuple e) i k lt (sym is ∙ trip_tuple_key e i lt) in
      placed (Triple e) s i k 2 (OnePair (trip_without e i)) (filled_by _ _ rest) (ap (single nat_cmp) (trip_tuple_without e i lt) ∙ sym rest) refl (λ _ _. tt)

  pub triple_other : (e : Trip) (i k : ℕ) → i < 3 → (trip_key e i).0 ≢ k → slice nat_cmp (single nat_cmp (trip_tuple e)) i k ≡ empty nat_cmp
  triple_other e i k lt ne = single_other (trip_tuple e) i k lt (λ is. ne (trip_tuple_key e i lt ∙ sym is))

  pub pair_slice : (e : Pair) → IsSub t (OnePair e) → (i k : ℕ) → i < 2 → (pair_key e i).0 ≡ k → IsPlaceOf t 1 (slice nat_cmp (single nat_cmp (pair_tuple e)) i k) (Some (Key (pair_without e i)))
  pair_slice e s i k lt is =
      let rest = single_slice (pair_tuple e) i k lt (sym is ∙ pair_tuple_key e i lt) in
      placed (OnePair e) s i k 1 (Key (pair_without e i)) (filled_by _ _ rest) (ap (single nat_cmp) (pair_tuple_without e i lt) ∙ sym rest) refl (λ _ _. tt)

  pub pair_other : (e : Pair) (i k : ℕ) → i < 2 → (pair_key e i).0 ≢ k → slice nat_cmp (single nat_cmp (pair_tuple e)) i k ≡ empty nat_cmp
  pair_other e i k lt ne = single_other (pair_tuple e) i k lt (λ is. ne (pair_tuple_key e i lt ∙ sym is))

  pub key_slice : (x : Id) → IsSub t (Key x) → (i k : ℕ) → i < 1 → x.0 ≡ k → IsPlaceOf t 0 (slice nat_cmp (single nat_cmp (id_tuple x)) i k) (Some There)
  key_slice x s zero k lt is =
      let rest = single_slice (id_tuple x) 0 k lt (sym is) in
      placed (Key x) s 0 k 0 There (filled_by _ _ rest) (sym rest) refl (λ _ _. tt)
  key_slice x s (suc i) k lt is = absurd (omega arith)

  pub key_other : (x : Id) (i k : ℕ) → i < 1 → x.0 ≢ k → slice nat_cmp (single nat_cmp (id_tuple x)) i k ≡ empty nat_cmp
  key_other x zero k lt ne = single_other (id_tuple x) 0 k lt (λ is. ne (sym is))
  key_other x (suc i) k lt ne = absurd (omega arith)

  -- the slices of nodes and maps

  filled_len : (S G : IdSet) → 1 ≤ set.len G → G ≡ S → S ≢ empty nat_cmp
  filled_len S G some is none = let z = set.len-empty (slice_cmp nat_cmp) in let n = ap set.len (is ∙ none) in omega arith

  node_is : (d r : ℕ) (row : Row Node) → row_of t (suc d) r ≡ Some row → set_of t (suc d) r ≡ node_set (suc d) (set_of t d) row.node
  node_is d r row at = ap (row_set (node_set (suc d) (set_of t d))) at

  at_some : (P : Row Node → Type 0) (o : Option (Row Node)) (row : Row Node) → o ≡ Some row → IfSome o P → P row
  at_some P o row at h = let g : IfSome (Some row) P = subst (λ o. IfSome o P) at h in g

  -- a row that a key of a node leads to is there, and stands for the slice

  module _ (n : Node) (i k r : ℕ) where
    pub triples_row : (mixed : ℕ → ℕ → ℕ → ℕ → ℕ) → IsNode mixed 3 (set_of t 2) n → i < 3 → edge_at n i k ≡ Some (ToRow r) → (1 ≤ set.len (set_of t 2 r)) × (set_of t 2 r ≡ slice nat_cmp (set_over (set_of t 2) n) i k)
    triples_row mixed f lt at = subst (StandsFor (IsTripleEdge (set_of t 2)) (set_of t 2) (slice nat_cmp (set_over (set_of t 2) n) i k)) at (triples_edge mixed (set_of t 2) n f i k lt)

    pub pairs_row : (mixed : ℕ → ℕ → ℕ → ℕ → ℕ) → IsNode mixed 2 (set_of t 1) n → IsFull n → i < 2 → edge_at n i k ≡ Some (ToRow r) → (2 ≤ set.len (set_of t 1 r)) × (set_of t 1 r ≡ slice nat_cmp (set_over (set_of t 1) n) i k)
    pairs_row mixed f full lt at = subst (StandsFor (IsPairEdge (set_of t 1)) (set_of t 1) (slice nat_cmp (set_over (set_of t 1) n) i k)) at (pairs_edge mixed (set_of t 1) n f full i k lt)

  -- where a node of depth three has no edge, or one to a key

  pub triples_none : (n : Node) (i k : ℕ) (mixed : ℕ → ℕ → ℕ → ℕ → ℕ) → IsNode mixed 3 (set_of t 2) n → i < 3 → edge_at n i k ≡ None → slice nat_cmp (set_over (set_of t 2) n) i k ≡ empty nat_cmp
  triples_none n i k mixed f lt at = subst (StandsFor (IsTripleEdge (set_of t 2)) (set_of t 2) (slice nat_cmp (set_over (set_of t 2) n) i k)) at (triples_edge mixed (set_of t 2) n f i k lt)

  pub triples_no_key : (n : Node) (i k : ℕ) (x : Id) (mixed : ℕ → ℕ → ℕ → ℕ → ℕ) → IsNode mixed 3 (set_of t 2) n → i < 3 → edge_at n i k ≡ Some (ToKey x) → ⊥
  triples_no_key n i k x mixed f lt at = (subst (StandsFor (IsTripleEdge (set_of t 2)) (set_of t 2) (slice nat_cmp (set_over (set_of t 2) n) i k)) at (triples_edge mixed (set_of t 2) n f i k lt)).0

  pub pairs_none : (n : Node) (i k : ℕ) (mixed : ℕ → ℕ → ℕ → ℕ → ℕ) → IsNode mixed 2 (set_of t 1) n → IsFull n → i < 2 → edge_at n i k ≡ None → slice nat_cmp (set_over (set_of t 1) n) i k ≡ empty nat_cmp
  pairs_none n i k mixed f full lt at = subst (StandsFor (IsPairEdge (set_of t 1)) (set_of t 1) (slice nat_cmp (set_over (set_of t 1) n) i k)) at (pairs_edge mixed (set_of t 1) n f full i k lt)

  -- the place of the pairs of a row

  pairs_place : (mixed : ℕ → ℕ → ℕ → ℕ → ℕ) → AreKept mixed t → (r : ℕ) (row : Row Node) → row_of t 2 r ≡ Some row → (p : Location) → IsPairsOf row.node p → (place_set t p ≡ set_of t 2 r) × (place_depth p ≡ 2) × (IsFormed mixed t p)
  pairs_place mixed kept r row at (Triple e) are = absurd are
  pairs_place mixed kept r row at (Triples m) are = absurd are
  pairs_place mixed kept r row at (OnePair e) are = (sym (node_is 1 r row at ∙ ap (set_over (set_of t 1)) are), refl, tt)
  pairs_place mixed kept r row at (Pairs m) are = (
    ap (set_over (set_of t 1)) are.0 ∙ sym (node_is 1 r row at),
    refl,
    (subst (IsNode mixed 2 (set_of t 1)) (sym are.0) ((kept 1).formed r row at), subst IsFull (sym are.0) are.1),
  )
  pairs_place mixed kept r row at (Key k) are = absurd are
  pairs_place mixed kept r row at (Keys m) are = absurd are
  pairs_place mixed kept r row at There are = absurd are

  pub triples_slice : (place : Location) (n : Node) → IsSub t place → place_set t place ≡ set_over (set_of t 2) n → (i k r : ℕ) → (1 ≤ set.len (set_of t 2 r)) × (set_of t 2 r ≡ slice nat_cmp (set_over (set_of t 2) n) i k) → (p : Location) → IfSome (row_of t 2 r) (λ row. IsPairsOf row.node p)
      → IsPlaceOf t 2 (slice nat_cmp (place_set t place) i k) (Some p)
  triples_slice place n s same i k r leads p are =
      let there = row_there (row_of t 2 r) (filled_there t 2 r leads.0) in
      let here : IsPairsOf there.0.node p = at_some (λ row. IsPairsOf row.node p) (row_of t 2 r) there.0 there.1 are in
      let pairs = pairs_place s.mixed s.kept r there.0 there.1 p here in
      let whole : set_of t 2 r ≡ slice nat_cmp (place_set t place) i k = leads.1 ∙ ap (λ H. slice nat_cmp H i k) (sym same) in
      placed place s i k 2 p (filled_len _ (set_of t 2 r) leads.0 whole) (pairs.0 ∙ whole) pairs.1 (λ mixed kept. (pairs_place mixed kept r there.0 there.1 p here).2)

  -- the keys of a row

  keys_set : (mixed : ℕ → ℕ → ℕ → ℕ → ℕ) (r : ℕ) (n : Node) → IsNode mixed 1 (set_of t 0) n → (m : Edges) → map_at n 0 ≡ Some m → key_set_of n ≡ union_over m (λ _. single nat_cmp [])
  keys_set mixed r (Single p) f m at = absurd f
  keys_set mixed r (Full s h a b c) f m at = ap (λ e. union_over e (λ _. single nat_cmp [])) (same a m at) where
    same : (x y : Edges) → Some x ≡ Some y → x ≡ y
    same x y e = cc

  -- a row of depth one has a map of keys
  pub keys_full : (mixed : ℕ → ℕ → ℕ → ℕ → ℕ) → AreKept mixed t → (r : ℕ) → 2 ≤ set.len (set_of t 1 r) → IfSome (row_of t 1 r) (λ row. IsSome (map_at row.node 0))
  keys_full mixed kept r some =
      let there = row_there (row_of t 1 r) (filled_there t 1 r (omega arith)) in
      subst (λ o. IfSome o (λ row. IsSome (map_at row.node 0))) (sym there.1) (by there.0.node ((kept 0).formed r there.0 there.1)) where
        by : (n : Node) → IsNode mixed 1 (set_of t 0) n → IsSome (map_at n 0)
        by (Single p) f = absurd f
        by (Full s h a b c) f = refl

  pub pairs_slice : (place : Location) (n : Node) → IsSub t place → place_set t place ≡ set_over (set_of t 1) n → (i k r : ℕ) → (2 ≤ set.len (set_of t 1 r)) × (set_of t 1 r ≡ slice nat_cmp (set_over (set_of t 1) n) i k) → (p : Location) (m : Edges) → place_set t p ≡ union_over m (λ _. single nat_cmp []) → place_depth p ≡ 1
      → ((mixed : ℕ → ℕ → ℕ → ℕ → ℕ) → IsFormed mixed t p) → IfSome (row_of t 1 r) (λ row. map_at row.node 0 ≡ Some m) → IsPlaceOf t 1 (slice nat_cmp (place_set t place) i k) (Some p)
  pairs_slice place n s same i k r leads p m is deep formed at =
      let there = row_there (row_of t 1 r) (filled_there t 1 r (omega (arith, leads.0))) in
      let here : map_at there.0.node 0 ≡ Some m = at_some (λ row. map_at row.node 0 ≡ Some m) (row_of t 1 r) there.0 there.1 at in
      let whole : set_of t 1 r ≡ slice nat_cmp (place_set t place) i k = leads.1 ∙ ap (λ H. slice nat_cmp H i k) (sym same) in
      let keys = node_is 0 r there.0 there.1 ∙ keys_set s.mixed r there.0.node ((s.kept 0).formed r there.0 there.1) m here in
      placed place s i k 1 p (filled_len _ (set_of t 1 r) (omega (arith, leads.0)) whole) (is ∙ sym keys ∙ whole) deep (λ mixed kept. formed mixed)

  pub pairs_key : (place : Location) (n : Node) → IsSub t place → place_set t place ≡ set_over (set_of t 1) n → (i k : ℕ) (x : Id) → StandsFor (IsPairEdge (set_of t 1)) (set_of t 1) (slice nat_cmp (set_over (set_of t 1) n) i k) (Some (ToKey x)) → IsPlaceOf t 1 (slice nat_cmp (place_set t place) i k) (Some (Key x))
  pairs_key place n s same i k x stands =
      let whole : single nat_cmp (id_tuple x) ≡ slice nat_cmp (place_set t place) i k = stands.1 ∙ ap (λ H. slice nat_cmp H i k) (sym same) in
      placed place s i k 1 (Key x) (filled_by _ _ (sym whole)) whole refl (λ _ _. tt)

  -- the keys of a map

  pub keys_slice : (place : Location) (m : Edges) → IsSub t place → place_set t place ≡ union_over m (λ _. single nat_cmp []) → (k : ℕ) (e : Edge) → map.get m k ≡ Some e → IsPlaceOf t 0 (slice nat_cmp (place_set t place) 0 k) (Some There)
  keys_slice place m s same k e at =
      let whole : slice nat_cmp (place_set t place) 0 k ≡ single nat_cmp [] = ap (λ H. slice nat_cmp H 0 k) same ∙ slice-union_over total exact m (λ _. single nat_cmp []) k ∙ ap (set_under nat_cmp (λ _. single nat_cmp [])) at in
      placed place s 0 k 0 There (filled_by _ _ whole) (sym whole) refl (λ _ _. tt)

  pub keys_other : (m : Edges) (k : ℕ) → map.get m k ≡ None → slice nat_cmp (union_over m (λ _. single nat_cmp [])) 0 k ≡ empty nat_cmp
  keys_other m k at = slice-union_over total exact m (λ _. single nat_cmp []) k ∙ ap (set_under nat_cmp (λ _. single nat_cmp [])) at
