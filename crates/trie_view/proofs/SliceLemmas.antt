-- The slices and the keys of a place that was found to be of one kind.
use Rattle.std.specs.Prelude.{◌≡◌, ◌≢◌, ℕ, ◌-◌, ◌<◌, ◌≤◌, [], Option, None, Some, IfSome, IsSome}
use Rattle.std.proofs.Common.{sym, ◌∙◌, ap, subst, arith, Bor}
use Rattle.std.proofs.Math.Logic.{∥∥₁_elim}
use Rattle.std.specs.Coded.{Coded-set, coded_bool}
use Rattle.std.specs.Ordering.{nat_cmp}
use Rattle.std.specs.FinMap as map
use Rattle.std.specs.FinSet as set
use Rattle.hypertrie_model.specs.Sets.{single}
use Rattle.hypertrie_model.specs.Slices.{slice}
use Rattle.hypertrie_model.specs.Unions.{union_over}
use Rattle.trie_depth.specs.declared.id.Id.{Id}
use Rattle.trie_depth.specs.declared.id.Pair.{Pair}
use Rattle.trie_depth.specs.declared.id.Trip.{Trip}
use Rattle.trie_depth.specs.Tuples.{id_tuple, pair_tuple, trip_tuple, pair_key, pair_without, trip_key, trip_without}
use Rattle.trie_depth.specs.TupleLaws.{id_tuple_key, pair_tuple_key, trip_tuple_key}
use Rattle.edge_map.specs.declared.edge.Edge.{Edge}
use Rattle.edge_map.specs.declared.edge.Edge.TheVariants.{Key as ToKey, Node as ToRow}
use Rattle.edge_map.specs.Edges.{Edges}
use Rattle.node_table.specs.Table.{Row}
use Rattle.trie_node.specs.declared.node.Node.{Node}
use Rattle.trie_node.specs.Sets.{map_at}
use Rattle.trie_node.specs.Forms.{IsPairEdge, StandsFor}
use Rattle.trie_context.specs.declared.tables.Tables.{Tables}
use Rattle.trie_context.specs.Rows.{row_of, set_of}
use Rattle.trie_context.specs.EdgeLaws.{filled_there}
use Rattle.trie_view.specs.declared.location.Location.{Location}
use Rattle.trie_view.specs.declared.location.Location.TheVariants.{Triple, Triples, Pair as OnePair, Pairs, Key, Keys, There}
use Rattle.trie_view.specs.declared.location.KeysAt.{KeysAt}
use Rattle.trie_view.specs.declared.location.KeysAt.TheVariants.{One, Of}
use Rattle.trie_view.specs.Places.{place_depth, place_set, IsSub, IsPlaceOf, IsPairsOf, HasKeysAt, AreKeysAt, edge_at}
use Rattle.trie_view.specs.EdgesAt.{keys_at_prop, single_keys, pairs_edge, triples_keys, pairs_keys, map_keys, triples_full, full_map}
use Rattle.trie_view.specs.PlaceLaws.{place_prop, triple_slice, triple_other, pair_slice, pair_other, key_slice, key_other, triples_none, triples_no_key, triples_row, pairs_none, pairs_row, triples_slice, pairs_slice, pairs_key, keys_full, keys_slice, keys_other}

-- this is the place of the slice by the key at the position
abbrev pub IsSliced : Tables → ℕ → ℕ → Option Location → Location → Type 0
IsSliced t i k o place = IsPlaceOf t (place_depth place - 1) (slice nat_cmp (place_set t place) i k) o

module _ (t : Tables) (place : Location) (known : ∥ IsSub t place ∥₁) (i : ℕ) (within : i < place_depth place) where
  module _ (p : Location) (is : place ≡ p) where
    known_at : (P : Type 0) → IsProp P → (IsSub t p → i < place_depth p → P) → P
    known_at P prop made = ∥∥₁_elim known prop (λ s. made (subst (IsSub t) is s) (subst (λ q. i < place_depth q) is within))

    sliced_at : (k : ℕ) (o : Option Location) → (IsSub t p → i < place_depth p → IsSliced t i k o p) → IsSliced t i k o place
    sliced_at k o made = subst (IsSliced t i k o) (sym is) (known_at (IsSliced t i k o p) (place_prop t _ _ o) made)

    keys_here : (ks : KeysAt) → (IsSub t p → i < place_depth p → AreKeysAt (place_set t p) i ks) → AreKeysAt (place_set t place) i ks
    keys_here ks made = subst (λ q. AreKeysAt (place_set t q) i ks) (sym is) (known_at (AreKeysAt (place_set t p) i ks) (keys_at_prop _ i ks) made)

  -- slices

  module _ (k : ℕ) where
    pub triple_given : (e : Trip) → place ≡ Triple e → (x : Id) → x ≡ trip_key e i → x.0 ≡ k → (rest : Pair) → rest ≡ trip_without e i → IsSliced t i k (Some (OnePair rest)) place
    triple_given e is x key here rest less = sliced_at (Triple e) is k (Some (OnePair rest)) (λ s lt. subst (λ q. IsSliced t i k (Some (OnePair q)) (Triple e)) (sym less) (triple_slice t e s i k lt (ap (λ (y : Id). y.0) (sym key) ∙ here)))

    pub triple_lacks : (e : Trip) → place ≡ Triple e → (x : Id) → x ≡ trip_key e i → x.0 ≢ k → IsSliced t i k None place
    triple_lacks e is x key other = sliced_at (Triple e) is k None (λ s lt. triple_other t e i k lt (λ here. other (ap (λ (y : Id). y.0) key ∙ here)))

    pub pair_given : (e : Pair) → place ≡ OnePair e → (x : Id) → x ≡ pair_key e i → x.0 ≡ k → (rest : Id) → rest ≡ pair_without e i → IsSliced t i k (Some (Key rest)) place
    pair_given e is x key here rest less = sliced_at (OnePair e) is k (Some (Key rest)) (λ s lt. subst (λ q. IsSliced t i k (Some (Key q)) (OnePair e)) (sym less) (pair_slice t e s i k lt (ap (λ (y : Id). y.0) (sym key) ∙ here)))

    pub pair_lacks : (e : Pair) → place ≡ OnePair e → (x : Id) → x ≡ pair_key e i → x.0 ≢ k → IsSliced t i k None place
    pair_lacks e is x key other = sliced_at (OnePair e) is k None (λ s lt. pair_other t e i k lt (λ here. other (ap (λ (y : Id). y.0) key ∙ here)))

    pub key_given : (x : Id) → place ≡ Key x → x.0 ≡ k → IsSliced t i k (Some There) place
    key_given x is here = sliced_at (Key x) is k (Some There) (λ s lt. key_slice t x s i k lt here)

    pub key_lacks : (x : Id) → place ≡ Key x → x.0 ≢ k → IsSliced t i k None place
    key_lacks x is other = sliced_at (Key x) is k None (λ s lt. key_other t x i k lt other)

    module _ (n : Bor Node) (is : place ≡ Triples n) (o : Option Edge) (under : o ≡ edge_at n.now i k) where
      pub triples_lack : o ≡ None → (q : Option Location) → q ≡ None → IsSliced t i k q place
      triples_lack none q q_is = subst (λ z. IsSliced t i k z place) (sym q_is) (sliced_at (Triples n) is k None (λ s lt. triples_none t n.now i k s.mixed s.formed lt (sym under ∙ none)))

      pub triples_keyless : (x : Id) → o ≡ Some (ToKey x) → ⊥
      triples_keyless x at = let never : IsProp ⊥ = hlevel in known_at (Triples n) is ⊥ never (λ s lt. triples_no_key t n.now i k x s.mixed s.formed lt (sym under ∙ at))

      module _ (r : ℕ) (at : o ≡ Some (ToRow r)) where
        pub triples_lead : IsSome (row_of t 2 r)
        triples_lead = known_at (Triples n) is (IsSome (row_of t 2 r)) (Coded-set coded_bool _ _) (λ s lt. filled_there t 2 r (triples_row t n.now i k r s.mixed s.formed lt (sym under ∙ at)).0)

        pub triples_given : (p : Location) → IfSome (row_of t 2 r) (λ row. IsPairsOf row.node p) → IsSliced t i k (Some p) place
        triples_given p are = sliced_at (Triples n) is k (Some p) (λ s lt. triples_slice t (Triples n) n.now s (λ _. place_set t (Triples n)) i k r (triples_row t n.now i k r s.mixed s.formed lt (sym under ∙ at)) p are)

    module _ (n : Bor Node) (is : place ≡ Pairs n) (o : Option Edge) (under : o ≡ edge_at n.now i k) where
      pub pairs_lack : o ≡ None → (q : Option Location) → q ≡ None → IsSliced t i k q place
      pairs_lack none q q_is = subst (λ z. IsSliced t i k z place) (sym q_is) (sliced_at (Pairs n) is k None (λ s lt. pairs_none t n.now i k s.mixed s.formed.0 s.formed.1 lt (sym under ∙ none)))

      pub pairs_keyed : (x : Id) → o ≡ Some (ToKey x) → IsSliced t i k (Some (Key x)) place
      pairs_keyed x at = sliced_at (Pairs n) is k (Some (Key x)) (λ s lt.
          pairs_key t (Pairs n) n.now s (λ _. place_set t (Pairs n)) i k x
          (subst (StandsFor (IsPairEdge (set_of t 1)) (set_of t 1) (slice nat_cmp (place_set t (Pairs n)) i k)) (sym under ∙ at) (pairs_edge s.mixed (set_of t 1) n.now s.formed.0 s.formed.1 i k lt)))

      module _ (r : ℕ) (at : o ≡ Some (ToRow r)) where
        pub pairs_lead : IsSome (row_of t 1 r)
        pairs_lead = known_at (Pairs n) is (IsSome (row_of t 1 r)) (Coded-set coded_bool _ _) (λ s lt. let leads = pairs_row t n.now i k r s.mixed s.formed.0 s.formed.1 lt (sym under ∙ at) in filled_there t 1 r (omega (arith, leads.0)))

        pub pairs_lead_full : IfSome (row_of t 1 r) (λ row. IsSome (map_at row.node 0))
        pairs_lead_full = known_at (Pairs n) is (IfSome (row_of t 1 r) (λ row. IsSome (map_at row.node 0))) (by (row_of t 1 r)) (λ s lt. keys_full t s.mixed s.kept r (pairs_row t n.now i k r s.mixed s.formed.0 s.formed.1 lt (sym under ∙ at)).0) where
          by : (o : Option (Row Node)) → IsProp (IfSome o (λ row. IsSome (map_at row.node 0)))
          by None = hlevel
          by (Some row) = Coded-set coded_bool _ _

        pub pairs_given : (m : Bor Edges) → IfSome (row_of t 1 r) (λ row. map_at row.node 0 ≡ Some m.now) → IsSliced t i k (Some (Keys m)) place
        pairs_given m are = sliced_at (Pairs n) is k (Some (Keys m)) (λ s lt.
            pairs_slice t (Pairs n) n.now s (λ _. place_set t (Pairs n)) i k r (pairs_row t n.now i k r s.mixed s.formed.0 s.formed.1 lt (sym under ∙ at)) (Keys m) m.now (λ _. place_set t (Keys m)) (λ _. 1) (λ _. tt) are)

    module _ (m : Bor Edges) (is : place ≡ Keys m) (o : Option Edge) (found : o ≡ map.get m.now k) where
      -- the one position of a key
      only_first : (j : ℕ) → j < 1 → j ≡ 0
      only_first j lt = omega arith

      pub keys_lack : o ≡ None → (q : Option Location) → q ≡ None → IsSliced t i k q place
      keys_lack none q q_is = subst (λ z. IsSliced t i k z place) (sym q_is) (sliced_at (Keys m) is k None (λ s lt. subst (λ j. IsSliced t j k None (Keys m)) (sym (only_first i lt)) (keys_other t m.now k (sym found ∙ none))))

      pub keys_given : (e : Edge) → o ≡ Some e → IsSliced t i k (Some There) place
      keys_given e at = sliced_at (Keys m) is k (Some There) (λ s lt. subst (λ j. IsSliced t j k (Some There) (Keys m)) (sym (only_first i lt)) (keys_slice t (Keys m) m.now s (λ _. place_set t (Keys m)) k e (sym found ∙ at)))

  -- keys

  pub triple_keys : (e : Trip) → place ≡ Triple e → (x : Id) → x ≡ trip_key e i → AreKeysAt (place_set t place) i (One x)
  triple_keys e is x key = keys_here (Triple e) is (One x) (λ s lt. single_keys (trip_tuple e) i x lt (ap (λ (y : Id). y.0) key ∙ trip_tuple_key e i lt))

  pub pair_keys : (e : Pair) → place ≡ OnePair e → (x : Id) → x ≡ pair_key e i → AreKeysAt (place_set t place) i (One x)
  pair_keys e is x key = keys_here (OnePair e) is (One x) (λ s lt. single_keys (pair_tuple e) i x lt (ap (λ (y : Id). y.0) key ∙ pair_tuple_key e i lt))

  pub key_keys : (x : Id) → place ≡ Key x → AreKeysAt (place_set t place) i (One x)
  key_keys x is = keys_here (Key x) is (One x) (λ s lt. single_keys (id_tuple x) i x lt (id_tuple_key x i lt))

  pub edges_keys : (m : Bor Edges) → place ≡ Keys m → AreKeysAt (place_set t place) i (Of m)
  edges_keys m is = keys_here (Keys m) is (Of m) (λ s lt. subst (λ j. HasKeysAt (place_set t (Keys m)) j m.now) (let first : 0 ≡ i = omega arith in first) (map_keys m.now))

  pub triples_keys_at : (n : Bor Node) → place ≡ Triples n → (m : Bor Edges) → map_at n.now i ≡ Some m.now → AreKeysAt (place_set t place) i (Of m)
  triples_keys_at n is m at = keys_here (Triples n) is (Of m) (λ s lt. triples_keys s.mixed (set_of t 2) n.now s.formed i lt m.now at)

  pub pairs_keys_at : (n : Bor Node) → place ≡ Pairs n → (m : Bor Edges) → map_at n.now i ≡ Some m.now → AreKeysAt (place_set t place) i (Of m)
  pairs_keys_at n is m at = keys_here (Pairs n) is (Of m) (λ s lt. pairs_keys s.mixed (set_of t 1) n.now s.formed.0 s.formed.1 i lt m.now at)

  pub triples_mapped : (n : Bor Node) → place ≡ Triples n → map_at n.now i ≡ None → ⊥
  triples_mapped n is none = let never : IsProp ⊥ = hlevel in known_at (Triples n) is ⊥ never (λ s lt. full_map n.now (triples_full s.mixed (set_of t 2) n.now s.formed) i none)

  pub pairs_mapped : (n : Bor Node) → place ≡ Pairs n → map_at n.now i ≡ None → ⊥
  pairs_mapped n is none = let never : IsProp ⊥ = hlevel in known_at (Pairs n) is ⊥ never (λ s lt. full_map n.now s.formed.1 i none)
