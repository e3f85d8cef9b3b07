-- The edge that stands for a set of keys: none, its one key, or the row of its node.
use Rattle.std.proofs.Common.{◌≡◌, ℕ, ◌+◌, ◌-◌, ◌<◌, ◌≤◌, Bool, true, false, cond, List, [], ◌∷◌, sym, ◌∙◌, ap, subst, refl, Option, None, Some, is_some, IsNone, IfSome, option_map, bit_xor, arith}
use Rattle.std.proofs.lemmas.Bool.{false_from_ne_true}
use Rattle.std.proofs.lemmas.Cmp.{lists_total}
use Rattle.std.specs.Ordering.{nat_cmp}
use Rattle.std.specs.Cmp.{nat_cmp_total as total}
use Rattle.std.specs.FinMap as map
use Rattle.std.specs.FinMap.{nat_cmp-IsAntisymmetric as exact}
use Rattle.std.specs.FinSet as set
use Rattle.std.specs.FinSet.{slice_cmp-IsAntisymmetric}
use Rattle.hypertrie_model.specs.IdSets.{IdSet}
use Rattle.hypertrie_model.specs.Sets.{has, single, HasDepth}
use Rattle.hypertrie_model.specs.SetLaws.{has-single, len-single}
use Rattle.hypertrie_model.specs.SetInduction.{set_insert-remove}
use Rattle.hypertrie_model.specs.MapLaws.{same_maps, map_ind}
use Rattle.hypertrie_model.specs.Folds.{sum_over}
use Rattle.hypertrie_model.specs.FoldLaws.{sum_over-empty, sum_over-insert, sum_over-same}
use Rattle.hypertrie_model.specs.Unions.{union_over, has_under}
use Rattle.hypertrie_model.specs.UnionLaws.{is_union_over}
use Rattle.hypertrie_model.specs.UnionSizes.{len-union_over}
use Rattle.hypertrie_model.specs.Changes.{after, IsChange}
use Rattle.hypertrie_model.specs.ChangeLaws.{xor-after}
use Rattle.trie_depth.specs.declared.id.Pair.{Pair}
use Rattle.edge_map.specs.declared.edge.Edge.{Edge}
use Rattle.edge_map.specs.declared.edge.Edge.TheVariants.{Key, Node as ToRow}
use Rattle.edge_map.specs.Edges.{Edges}
use Rattle.node_table.specs.Table.{Row}
use Rattle.trie_node.specs.declared.node.Node.{Node}
use Rattle.trie_node.specs.declared.node.Node.TheVariants.{Full}
use Rattle.trie_node.specs.Sets.{key_set_of, tuple_mix, set_hash, leads, edges_of}
use Rattle.trie_node.specs.Forms.{IsKeyNode}
use Rattle.trie_context.specs.declared.tables.Tables.{Tables}
use Rattle.trie_context.specs.Rows.{row_of, node_of, row_set, set_of}
use Rattle.trie_context.specs.Holds.{one_at, at_depth, nothing, RowsStay}
use Rattle.trie_context.specs.MoveLaws.{if_same, if_other, same_or_not, at_same, at_none, gained_none, moved_as, rows_as_before}
use Rattle.trie_context.specs.StayLaws.{as_before}
use Rattle.trie_context.specs.Kept.{AreKept, AreMoved}
use Rattle.trie_context.specs.FitEdges.{set_at, StandsAt, option_leads}
use Rattle.trie_context.specs.RowLaws.{key_node_edges}
use Rattle.trie_change.specs.declared.change.Change.{Change}
use Rattle.trie_change.specs.Batches.{set_of_entries, pair_rest}
use Rattle.trie_change.specs.BatchLaws.{depth-entries, depth-after}
use Rattle.trie_change.specs.Changes.{grows}
use Rattle.trie_change.specs.Rooms.{FitsSome, AreKeys}
use Rattle.trie_change.proofs.KeyRowLemmas.{nil_here, depth_keys}

-- a set of fewer than two tuples with this one
one_member : (S : IdSet) (t : List ℕ) → has S t ≡ true → set.len S < 2 → single nat_cmp t ≡ S
one_member S t there few =
    let fewer : set.len (set.remove S t) ≡ 0 = set.len-remove (lists_total total) S t ∙ ap (λ b. cond b (set.len S - 1) (set.len S)) there ∙ omega arith in
    sym (ap (λ s. set.insert s t) (set.empty_of_len (set.remove S t) fewer)) ∙ set_insert-remove (lists_total total) (slice_cmp-IsAntisymmetric exact) S t there

-- the set has keys alone, and the map has each of them under itself
pub record IsKeyMap (S : IdSet) (m : Edges) : Type 0 where
  pub deep : HasDepth 1 S
  pub keys : AreKeys S m

-- the parts of a node of two keys or more
pub record AreKeyParts (mixed : ℕ → ℕ → ℕ → ℕ → ℕ) (S : IdSet) (s h : ℕ) (a b c : Edges) : Type 0 where
  pub first : IsKeyMap S a
  pub sized : s ≡ map.len a
  pub large : 2 ≤ s
  pub hashed : h ≡ set_hash mixed 1 S
  pub second : b ≡ map.empty
  pub third : c ≡ map.empty

module _ (S : IdSet) (m : Edges) (is : IsKeyMap S m) where
  long : (k x : ℕ) (u : List ℕ) → has S (k ∷ x ∷ u) ≡ true → ⊥
  long k x u there = let n = is.deep (k ∷ x ∷ u) there in omega arith

  under : (b : Bool) (k : ℕ) (o : Option Edge) → o ≡ cond b (Some (Key (record { 0 = k }))) None → b ≡ has_under (λ _. single nat_cmp []) o []
  under true k o at = sym (ap (λ p. has_under (λ _. single nat_cmp []) p []) at ∙ nil_here)
  under false k o at = sym (ap (λ p. has_under (λ _. single nat_cmp []) p []) at)

  under_long : (o : Option Edge) (x : ℕ) (u : List ℕ) → has_under (λ _. single nat_cmp []) o (x ∷ u) ≡ false
  under_long None x u = refl
  under_long (Some e) x u = has-single total exact [] (x ∷ u)

  pub keys_union : S ≡ union_over m (λ _. single nat_cmp [])
  keys_union = is_union_over total exact S m (λ _. single nat_cmp []) (false_from_ne_true _ (λ there. let n = is.deep [] there in omega arith)) at where
    at : (k : ℕ) (u : List ℕ) → has S (k ∷ u) ≡ has_under (λ _. single nat_cmp []) (map.get m k) u
    at k [] = under (has S (k ∷ [])) k (map.get m k) (is.keys k)
    at k (x ∷ u) = false_from_ne_true _ (long k x u) ∙ sym (under_long (map.get m k) x u)

  sum_ones : (n : Edges) → sum_over n (λ _ _. 1) ≡ map.len n
  sum_ones = map_ind total exact (λ n. sum_over n (λ _ _. 1) ≡ map.len n)
      (sum_over-empty total exact (λ _ _. 1) ∙ sym (map.len-empty nat_cmp Edge))
      (λ n k e new ind.
      let more = map.len-insert total n k e ∙ ap (λ o. cond (is_some o) (map.len n) (map.len n + 1)) new in
      omega (arith, sum_over-insert total exact n (λ _ _. 1) k e new))

  pub keys_len : set.len S ≡ map.len m
  keys_len =
      ap set.len keys_union
      ∙ len-union_over total exact (λ _. single nat_cmp []) m
      ∙ sum_over-same total exact (λ _ _. set.len (single nat_cmp [])) (λ _ _. 1) m (λ k e at. len-single total exact [])
      ∙ sum_ones m

  key_edge : (b : Bool) (k : ℕ) (e : Edge) → Some e ≡ cond b (Some (Key (record { 0 = k }))) None → (b ≡ true) × (e ≡ Key (record { 0 = k }))
  key_edge true k e at = (refl, let same : e ≡ Key (record { 0 = k }) = cc in same)
  key_edge false k e at = absurd (let f : ⊥ = cc in f)

  -- an edge of the map is the key that it stands under, a key of the set
  pub keys_edge : (k : ℕ) (e : Edge) → map.get m k ≡ Some e → (has S (k ∷ []) ≡ true) × (e ≡ Key (record { 0 = k }))
  keys_edge k e at = key_edge (has S (k ∷ [])) k e (sym at ∙ is.keys k)

  -- no edge for no key
  none_stands : (t : Tables) → ((k : ℕ) → map.get m k ≡ None) → StandsAt t 1 S None
  none_stands t none =
      let same : m ≡ map.empty = same_maps total exact m map.empty (λ k. none k ∙ sym (map.get-empty nat_cmp k)) in
      set.empty_of_len S (keys_len ∙ ap map.len same ∙ map.len-empty nat_cmp Edge)

  -- a key alone is its own edge
  one_stands : (t : Tables) → map.len m < 2 → (k : ℕ) (e : Edge) → map.get m k ≡ Some e → StandsAt t 1 S (Some e)
  one_stands t few k e at =
      let here = keys_edge k e at in
      subst (λ f. StandsAt t 1 S (Some f)) (sym here.1) (tt, one_member S (k ∷ []) here.0 (let n = keys_len in omega arith))

  -- and leads to no row
  one_leads : (k : ℕ) (e : Edge) → map.get m k ≡ Some e → (r : ℕ) → option_leads (Some e) r ≡ 0
  one_leads k e at r = ap (λ f. leads f r) (keys_edge k e at).1

  -- the edge of fewer than two keys
  pub few_stand : (t : Tables) → map.len m < 2 → (o : Option Edge) → (IsNone o → (k : ℕ) → map.get m k ≡ None) → IfSome o (λ e. (k : ℕ) × (map.get m k ≡ Some e)) → StandsAt t 1 S o
  few_stand t few None none there = none_stands t (none refl)
  few_stand t few (Some e) none there = one_stands t few there.0 e there.1

  pub few_moved : (mixed : ℕ → ℕ → ℕ → ℕ → ℕ) (t : Tables) → AreKept mixed t → (o : Option Edge) → IfSome o (λ e. (k : ℕ) × (map.get m k ≡ Some e)) → AreMoved mixed t t (at_depth 1 (option_leads o)) nothing
  few_moved mixed t kept None there = gained_none mixed t kept (at_depth 1 (option_leads None)) (at_none 1 (option_leads None) (λ r. refl))
  few_moved mixed t kept (Some e) there = gained_none mixed t kept (at_depth 1 (option_leads (Some e))) (at_none 1 (option_leads (Some e)) (one_leads there.0 e there.1))

-- two keys or more have a node
module _ (mixed : ℕ → ℕ → ℕ → ℕ → ℕ) (S : IdSet) (s h : ℕ) (a b c : Edges) (parts : AreKeyParts mixed S s h a b c) where
  union_here : S ≡ key_set_of (Full s h a b c)
  union_here = keys_union S a parts.first

  len_here : s ≡ set.len S
  len_here = parts.sized ∙ sym (keys_len S a parts.first)

  -- which is in form
  pub keys_formed : IsKeyNode (set_hash mixed 1) (Full s h a b c)
  keys_formed = record {
    told = record { sized = len_here ∙ ap set.len union_here; large = let l = parts.large in let n = len_here in let e = ap set.len union_here in omega arith; hashed = parts.hashed ∙ ap (set_hash mixed 1) union_here };
    keys = λ k e at. (keys_edge S a parts.first k e at).1;
    second = parts.second;
    third = parts.third;
  }

  -- and leads to no row
  keys_lead : (r : ℕ) → edges_of (Full s h a b c) r ≡ 0
  keys_lead r = key_node_edges (set_hash mixed 1) (Full s h a b c) r keys_formed

  pub keys_held : (n r : ℕ) → edges_of (Full s h a b c) r ≤ n
  keys_held n r = omega (arith, keys_lead r)

  row_stands : (o : Option (Row Node)) → option_map (λ row. row.node) o ≡ Some (Full s h a b c) → row_set key_set_of o ≡ S
  row_stands None at = absurd (let f : ⊥ = cc in f)
  row_stands (Some row) at = let is : row.node ≡ Full s h a b c = cc in ap key_set_of is ∙ sym union_here

  module _ (t u : Tables) where
    -- an edge to the row of this node stands for the keys
    pub row_edge : (n : ℕ) → node_of u 1 n ≡ Some (Full s h a b c) → StandsAt u 1 S (Some (ToRow n))
    row_edge n there =
        let is : set_of u 1 n ≡ S = row_stands (row_of u 1 n) there in
        (let l = parts.large in let n = len_here in let e = ap set.len is in omega arith, is)

    -- and is in hand
    pub row_moved : (n : ℕ) → AreMoved mixed t u (at_depth 1 (one_at n)) (at_depth 0 (edges_of (Full s h a b c))) → AreMoved mixed t u (at_depth 1 (option_leads (Some (ToRow n)))) nothing
    row_moved n moved = moved_as moved (at_depth 1 (option_leads (Some (ToRow n)))) nothing (λ d r. omega (arith, at_none 0 (edges_of (Full s h a b c)) keys_lead d r, at_same 1 (one_at n) (leads (ToRow n)) (turned n) d r)) where
      turned : (n r : ℕ) → one_at n r ≡ leads (ToRow n) r
      turned n r = same_or_not n r _ (λ is. if_same r n 1 0 (sym is) ∙ sym (if_same n r 1 0 is)) (λ ne. if_other r n 1 0 (λ is. ne (sym is)) ∙ sym (if_other n r 1 0 ne))

    -- where the node was given up, nothing moved
    pub row_given : AreKept mixed t → AreMoved mixed t u nothing (at_depth 0 (edges_of (Full s h a b c))) → RowsStay u t → u ≡ t
    row_given kept given came = as_before mixed t t u kept given.kept (rows_as_before t) came (λ d r. omega (arith, given.holds d r, at_none 0 (edges_of (Full s h a b c)) keys_lead d r)) given.reserved

-- ---- the keys of a changed set

module _ (mixed : ℕ → ℕ → ℕ → ℕ → ℕ) (t : Tables) (kept : AreKept mixed t) (change : Change) (old : Option Edge) (fits : FitsSome t 1 old) (run : List Pair) where
  abbrev pub changed_set : IdSet
  changed_set = after (grows change) (set_at t 1 old) (set_of_entries pair_rest run)

  made_deep : HasDepth 1 changed_set
  made_deep = depth-after 1 (grows change) (set_at t 1 old) (set_of_entries pair_rest run) (depth_keys mixed t kept old fits) (depth-entries pair_rest 1 (λ p. refl) run)

  pub made_map : (m : Edges) → AreKeys changed_set m → IsKeyMap changed_set m
  made_map m keys = record { deep = made_deep; keys = keys }

  made_hash : IsChange (grows change) (set_at t 1 old) (set_of_entries pair_rest run) → (g h : ℕ) → g ≡ set_hash mixed 1 (set_at t 1 old) → h ≡ bit_xor g (set_hash mixed 1 (set_of_entries pair_rest run)) → h ≡ set_hash mixed 1 changed_set
  made_hash change_fits g h first toggled =
      toggled
      ∙ ap (λ n. bit_xor n (set_hash mixed 1 (set_of_entries pair_rest run))) first
      ∙ sym (xor-after total exact (tuple_mix mixed 1) (grows change) (set_at t 1 old) (set_of_entries pair_rest run) change_fits)

  pub made_parts : IsChange (grows change) (set_at t 1 old) (set_of_entries pair_rest run) → (g s h : ℕ) (a b c : Edges) → AreKeys changed_set a → s ≡ map.len a → 2 ≤ s
      → g ≡ set_hash mixed 1 (set_at t 1 old) → h ≡ bit_xor g (set_hash mixed 1 (set_of_entries pair_rest run)) → b ≡ map.empty → c ≡ map.empty → AreKeyParts mixed changed_set s h a b c
  made_parts change_fits g s h a b c keys sized large first toggled second third = record {
    first = made_map a keys;
    sized = sized;
    large = large;
    hashed = made_hash change_fits g h first toggled;
    second = second;
    third = third;
  }
