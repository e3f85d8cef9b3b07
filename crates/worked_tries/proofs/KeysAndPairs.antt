-- The worked example of the tests: the keys 2 and 3, and the pairs of one key before each of them, under a mix that is 0 always.
use Rattle.std.specs.Prelude.{◌≡◌, ℕ, ◌<◌, ◌&&◌, ◌||◌, Bool, true, false, cond, List, [], ◌∷◌, refl, Option, None, Some}
use Rattle.std.proofs.Common.{sym, ◌∙◌, ap, subst, arith}
use Rattle.std.proofs.lemmas.Cmp.{lists_total}
use Rattle.std.specs.Ordering.{nat_cmp, eq_by_cmp}
use Rattle.std.specs.Cmp.{nat_cmp_total as total}
use Rattle.std.specs.Cmp.Lexicographic.{slice_cmp}
use Rattle.std.specs.FinMap as map
use Rattle.std.specs.FinMap.{nat_cmp-IsAntisymmetric as exact}
use Rattle.std.specs.FinSet as set
use Rattle.std.specs.FinSet.{slice_cmp-IsAntisymmetric}
use Rattle.trie_depth.specs.declared.id.Id.{Id}
use Rattle.edge_map.specs.declared.edge.Edge.{Edge}
use Rattle.edge_map.specs.declared.edge.Edge.TheVariants.{Key, Node as ToRow}
use Rattle.edge_map.specs.Edges.{Edges}
use Rattle.hypertrie_model.specs.IdSets.{IdSet}
use Rattle.hypertrie_model.specs.Sets.{has, single}
use Rattle.hypertrie_model.specs.SetLaws.{same_sets, has-single, len-single}
use Rattle.hypertrie_model.specs.Slices.{slice}
use Rattle.hypertrie_model.specs.SliceLaws.{has-slice, has-slice_short}
use Rattle.hypertrie_model.specs.MapLaws.{by_key, get-insert_here, get-insert_other}
use Rattle.hypertrie_model.specs.Unions.{has_under}
use Rattle.hypertrie_model.specs.UnionLaws.{has-union_over, tied-cons}
use Rattle.hypertrie_model.specs.UnionSizes.{slice-union_over, set_under, len-union_over_insert, union_over-empty}
use Rattle.hypertrie_model.specs.UnionHashes.{xor_over-zero}
use Rattle.trie_node.specs.declared.node.Node.{Node}
use Rattle.trie_node.specs.declared.node.Node.TheVariants.{Full}
use Rattle.trie_node.specs.Sets.{edge_set, key_set_of, pair_set_of, set_hash, tuple_mix}
use Rattle.trie_node.specs.Forms.{IsPairEdge, StandsFor, AreSlices, IsKeyNode, IsPairNode}

-- the mix of the example
abbrev pub zero_mix : ℕ → ℕ → ℕ → ℕ → ℕ
zero_mix d a b c = 0

-- the two keys
abbrev pub two : Id
two = record { 0 = 2 }

abbrev pub three : Id
three = record { 0 = 3 }

pub rise : 2 < 3
rise = omega arith

module _ (low high : Id) where
  abbrev pub key_map : Edges
  key_map = map.insert (map.insert map.empty high.0 (Key high)) low.0 (Key low)

  abbrev pub key_node : Node
  key_node = Full 2 0 key_map map.empty map.empty

  -- one key before each of the two, whose set is row k
  abbrev pub pair_map : Id → ℕ → Edges
  pair_map first k = map.insert map.empty first.0 (ToRow k)

  abbrev pub back_map : Id → Edges
  back_map first = map.insert (map.insert map.empty high.0 (Key first)) low.0 (Key first)

  abbrev pub pair_node : Id → ℕ → Node
  pair_node first k = Full 2 0 (pair_map first k) (back_map first) map.empty

module _ (low high : Id) (rise : low.0 < high.0) where
  no_low : map.get (map.insert (map.empty {X = Edge} {R = nat_cmp}) high.0 (Key high)) low.0 ≡ None
  no_low = get-insert_other total exact map.empty high.0 (Key high) low.0 (λ is. omega arith) ∙ map.get-empty nat_cmp low.0

  two_keys_len : set.len (key_set_of (key_node low high)) ≡ 2
  two_keys_len =
      let f = λ (e : Edge). single nat_cmp [] in
      let one = len-single total exact [] in
      let first = len-union_over_insert total exact (map.insert map.empty high.0 (Key high)) f low.0 (Key low) no_low in
      let second = len-union_over_insert total exact map.empty f high.0 (Key high) (map.get-empty nat_cmp high.0) in
      let none = ap set.len (union_over-empty total exact f) ∙ set.len-empty (slice_cmp nat_cmp) in
      omega arith

  keys_are : (k : ℕ) (e : Edge) → map.get (key_map low high) k ≡ Some e → e ≡ Key (record { 0 = k })
  keys_are k e at = by_key total exact (λ _. e ≡ Key (record { 0 = k })) k low.0
      (λ is. same_edge (Key low) e (sym (get-insert_here total exact (map.insert map.empty high.0 (Key high)) low.0 (Key low)) ∙ ap (map.get (key_map low high)) (sym is) ∙ at) ∙ ap Key (same_id low k (sym is)))
      (λ ne. by_key total exact (λ _. e ≡ Key (record { 0 = k })) k high.0
      (λ is. same_edge (Key high) e (sym (get-insert_here total exact map.empty high.0 (Key high)) ∙ ap (map.get (map.insert map.empty high.0 (Key high))) (sym is) ∙ sym (get-insert_other total exact (map.insert map.empty high.0 (Key high)) low.0 (Key low) k ne) ∙ at) ∙ ap Key (same_id high k (sym is)))
      (λ off. nowhere (sym (get-insert_other total exact (map.insert map.empty high.0 (Key high)) low.0 (Key low) k ne ∙ get-insert_other total exact map.empty high.0 (Key high) k off ∙ map.get-empty nat_cmp k) ∙ at))) where
        same_edge : (x y : Edge) → Some x ≡ Some y → y ≡ x
        same_edge x y is = cc

        same_id : (x : Id) (k : ℕ) → x.0 ≡ k → x ≡ record { 0 = k }
        same_id x k is = λ i. record { 0 = is i }

        nowhere : None ≡ Some e → e ≡ Key (record { 0 = k })
        nowhere f = absurd (let t : ⊥ = cc in t)

  pub key_node_form : IsKeyNode (set_hash zero_mix 1) (key_node low high)
  key_node_form = record {
    told = record { sized = sym two_keys_len; large = (let n = two_keys_len in omega arith); hashed = sym (xor_over-zero (lists_total total) (slice_cmp-IsAntisymmetric exact) (tuple_mix zero_mix 1) (λ t. refl) (key_set_of (key_node low high))) };
    keys = keys_are;
    second = refl;
    third = refl;
  }

  -- whether k is one of the two keys
  abbrev is_key : ℕ → Bool
  is_key k = eq_by_cmp nat_cmp k low.0 || eq_by_cmp nat_cmp k high.0

  has-keys : (k : ℕ) (u : List ℕ) → has (key_set_of (key_node low high)) (k ∷ u) ≡ (is_key k && eq_by_cmp (slice_cmp nat_cmp) u [])
  has-keys k u =
      has-union_over total exact (key_map low high) (λ _. single nat_cmp []) k u
      ∙ ap (λ o. has_under (λ (e : Edge). single nat_cmp []) o u) (map.get-insert total (map.insert map.empty high.0 (Key high)) low.0 (Key low) k ∙ ap (cond (eq_by_cmp nat_cmp k low.0) (Some (Key low))) (map.get-insert total map.empty high.0 (Key high) k ∙ ap (cond (eq_by_cmp nat_cmp k high.0) (Some (Key high))) (map.get-empty nat_cmp k)))
      ∙ cases (eq_by_cmp nat_cmp k low.0) (eq_by_cmp nat_cmp k high.0) where
        cases : (a b : Bool) → has_under (λ (e : Edge). single nat_cmp []) (cond a (Some (Key low)) (cond b (Some (Key high)) None)) u ≡ ((a || b) && eq_by_cmp (slice_cmp nat_cmp) u [])
        cases true b = has-single total exact [] u
        cases false true = has-single total exact [] u
        cases false false = refl

  module _ (first : Id) (k : ℕ) (sets : ℕ → IdSet) (stands : sets k ≡ key_set_of (key_node low high)) where
    two_pairs_len : set.len (pair_set_of sets (pair_node low high first k)) ≡ 2
    two_pairs_len =
        let one = len-union_over_insert total exact map.empty (edge_set sets) first.0 (ToRow k) (map.get-empty nat_cmp first.0) in
        let none = ap set.len (union_over-empty total exact (edge_set sets)) ∙ set.len-empty (slice_cmp nat_cmp) in
        let keys = ap set.len stands ∙ two_keys_len in
        omega arith

    first_slices : AreSlices (IsPairEdge sets) sets (pair_set_of sets (pair_node low high first k)) 0 (pair_map low high first k)
    first_slices x = by (map.get (pair_map low high first k) x) (slice-union_over total exact (pair_map low high first k) (edge_set sets) x) led where
      led : (e : Edge) → map.get (pair_map low high first k) x ≡ Some e → IsPairEdge sets e
      led e at = by_key total exact (λ _. IsPairEdge sets e) x first.0
          (λ is. subst (IsPairEdge sets) (same_edge (ToRow k) e (sym (get-insert_here total exact map.empty first.0 (ToRow k)) ∙ ap (map.get (pair_map low high first k)) (sym is) ∙ at)) (let n = ap set.len stands ∙ two_keys_len in omega arith))
          (λ ne. nowhere (sym (get-insert_other total exact map.empty first.0 (ToRow k) x ne ∙ map.get-empty nat_cmp x) ∙ at)) where
            same_edge : (x y : Edge) → Some x ≡ Some y → x ≡ y
            same_edge x y is = cc

            nowhere : None ≡ Some e → IsPairEdge sets e
            nowhere f = absurd (let t : ⊥ = cc in t)

      by : (o : Option Edge) → slice nat_cmp (pair_set_of sets (pair_node low high first k)) 0 x ≡ set_under nat_cmp (edge_set sets) o → ((e : Edge) → o ≡ Some e → IsPairEdge sets e) → StandsFor (IsPairEdge sets) sets (slice nat_cmp (pair_set_of sets (pair_node low high first k)) 0 x) o
      by None is fit = is
      by (Some e) is fit = (fit e refl, sym is)

    has-pair : (x y : ℕ) (u : List ℕ) → has (pair_set_of sets (pair_node low high first k)) (x ∷ y ∷ u) ≡ (eq_by_cmp nat_cmp x first.0 && (is_key y && eq_by_cmp (slice_cmp nat_cmp) u []))
    has-pair x y u =
        has-union_over total exact (pair_map low high first k) (edge_set sets) x (y ∷ u)
        ∙ ap (λ o. has_under (edge_set sets) o (y ∷ u)) (map.get-insert total map.empty first.0 (ToRow k) x ∙ ap (cond (eq_by_cmp nat_cmp x first.0) (Some (ToRow k))) (map.get-empty nat_cmp x))
        ∙ elim (eq_by_cmp nat_cmp x first.0) as (λ b. has_under (edge_set sets) (cond b (Some (ToRow k)) None) (y ∷ u) ≡ (b && (is_key y && eq_by_cmp (slice_cmp nat_cmp) u []))) [
          | true ↦ ap (λ S. has S (y ∷ u)) stands ∙ has-keys y u
          | false ↦ refl
        ]

    back_at : (y : ℕ) → map.get (back_map low high first) y ≡ cond (is_key y) (Some (Key first)) None
    back_at y =
        map.get-insert total (map.insert map.empty high.0 (Key first)) low.0 (Key first) y
        ∙ ap (cond (eq_by_cmp nat_cmp y low.0) (Some (Key first))) (map.get-insert total map.empty high.0 (Key first) y ∙ ap (cond (eq_by_cmp nat_cmp y high.0) (Some (Key first))) (map.get-empty nat_cmp y))
        ∙ cases (eq_by_cmp nat_cmp y low.0) (eq_by_cmp nat_cmp y high.0) where
          cases : (a b : Bool) → cond a (Some (Key first)) (cond b (Some (Key first)) None) ≡ cond (a || b) (Some (Key first)) None
          cases true b = refl
          cases false b = refl

    -- the tuples before a key
    has-back : (y : ℕ) (u : List ℕ) → has (slice nat_cmp (pair_set_of sets (pair_node low high first k)) 1 y) u ≡ (is_key y && eq_by_cmp (slice_cmp nat_cmp) u (first.0 ∷ []))
    has-back y [] = has-slice_short total exact (pair_set_of sets (pair_node low high first k)) 1 y [] (omega arith) ∙ sym (none (is_key y)) where
      none : (b : Bool) → (b && eq_by_cmp (slice_cmp nat_cmp) [] (first.0 ∷ [])) ≡ false
      none true = refl
      none false = refl
    has-back y (x ∷ u) =
        has-slice total exact (pair_set_of sets (pair_node low high first k)) 1 y (x ∷ u) (omega arith)
        ∙ has-pair x y u
        ∙ swap (eq_by_cmp nat_cmp x first.0) (is_key y) (eq_by_cmp (slice_cmp nat_cmp) u [])
        ∙ ap (λ b. is_key y && b) (sym (tied-cons nat_cmp x first.0 u [])) where
          swap : (a b c : Bool) → (a && (b && c)) ≡ (b && (a && c))
          swap true b c = refl
          swap false true c = refl
          swap false false c = refl

    second_slices : AreSlices (IsPairEdge sets) sets (pair_set_of sets (pair_node low high first k)) 1 (back_map low high first)
    second_slices y = subst (StandsFor (IsPairEdge sets) sets (slice nat_cmp (pair_set_of sets (pair_node low high first k)) 1 y)) (sym (back_at y)) (by (is_key y) (has-back y)) where
      by : (b : Bool) → ((u : List ℕ) → has (slice nat_cmp (pair_set_of sets (pair_node low high first k)) 1 y) u ≡ (b && eq_by_cmp (slice_cmp nat_cmp) u (first.0 ∷ []))) → StandsFor (IsPairEdge sets) sets (slice nat_cmp (pair_set_of sets (pair_node low high first k)) 1 y) (cond b (Some (Key first)) None)
      by true here = (tt, same_sets total exact _ _ (λ u. has-single total exact (first.0 ∷ []) u ∙ sym (here u)))
      by false none = same_sets total exact _ _ (λ u. none u ∙ sym (set.contains-empty (slice_cmp nat_cmp) u))

    pub pair_node_form : IsPairNode (set_hash zero_mix 2) sets (pair_node low high first k)
    pair_node_form = record {
      told = record { sized = sym two_pairs_len; large = (let n = two_pairs_len in omega arith); hashed = sym (xor_over-zero (lists_total total) (slice_cmp-IsAntisymmetric exact) (tuple_mix zero_mix 2) (λ t. refl) (pair_set_of sets (pair_node low high first k))) };
      first = first_slices;
      second = second_slices;
      third = refl;
    }
