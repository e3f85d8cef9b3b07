-- The edges of a node that lead to a row are the slices of its set that are the set of the row.
use Rattle.std.specs.Prelude.{◌≡◌, ℕ, zero, suc, ◌+◌, ◌≤◌, ◌≢◌, ◌⊎◌, Bool, true, false, cond, nat_eq, [], ◌∷◌, refl, Option, None, Some}
use Rattle.std.proofs.Common.{sym, ◌∙◌, ap, inl, inr, arith}
use Rattle.std.proofs.lemmas.Bool.Decides.{nat_tests}
use Rattle.std.specs.Ordering.{nat_cmp, eq_by_cmp}
use Rattle.std.specs.Cmp.{nat_cmp_total as total}
use Rattle.std.specs.FinMap as map
use Rattle.std.specs.FinMap.{nat_cmp-IsAntisymmetric as exact}
use Rattle.std.specs.FinSet as set
use Rattle.trie_depth.specs.declared.id.Pair.{Pair}
use Rattle.trie_depth.specs.Tuples.{pair_tuple}
use Rattle.hypertrie_model.specs.IdSets.{IdSet}
use Rattle.hypertrie_model.specs.Sets.{empty}
use Rattle.hypertrie_model.specs.SetLaws.{len-single, tied-itself, tied-apart}
use Rattle.hypertrie_model.specs.Slices.{keys, slice}
use Rattle.hypertrie_model.specs.SliceLaws.{key-slice, slice-no_key}
use Rattle.hypertrie_model.specs.Folds.{marked}
use Rattle.hypertrie_model.specs.FoldLaws.{sum_over-alike, get-marked, part}
use Rattle.hypertrie_model.specs.Shapes.{set_cmp, times, large_slices, two, count2}
use Rattle.hypertrie_model.specs.Members.{counted_by}
use Rattle.hypertrie_model.specs.ShapeLaws.{count2-sum, sets_total, sets_exact, IsSlice, times-sum, has-two, has-large_slices, len-slice_single, times_single}
use Rattle.edge_map.specs.declared.edge.Edge.{Edge}
use Rattle.edge_map.specs.declared.edge.Edge.TheVariants.{Key, Node as ToRow}
use Rattle.edge_map.specs.Edges.{Edges}
use Rattle.trie_node.specs.declared.node.Node.{Node}
use Rattle.trie_node.specs.declared.node.Node.TheVariants.{Single, Full}
use Rattle.trie_node.specs.Sets.{edge_set, set_over, leads, edges_in, edges_of}
use Rattle.trie_node.specs.Forms.{IsPairEdge, IsTripleEdge, StandsFor, AreSlices}
use Rattle.trie_node.specs.FormLaws.{filled_pair, filled_triple}
use Rattle.trie_context.specs.Rows.{node_set}
use Rattle.trie_context.specs.Kept.{IsNode}
use Rattle.trie_context.specs.RowLaws.{nothing_leads}

pub same_number : (n r : ℕ) → nat_eq n r ≡ true → n ≡ r
same_number n r e = grind (arith, nat_tests)

pub eq_itself : (n : ℕ) → nat_eq n n ≡ true
eq_itself n = grind (arith, nat_tests)

-- whether two sets are equal
abbrev same_set : IdSet → IdSet → Bool
same_set H K = eq_by_cmp (set_cmp nat_cmp) H K

same_itself : (H : IdSet) → same_set H H ≡ true
same_itself H = tied-itself (sets_total total exact) H

not_same : (H K : IdSet) → H ≢ K → same_set H K ≡ false
not_same H K ne = tied-apart (sets_exact total exact) H K ne

not_same_size : (H K : IdSet) → set.len H ≢ set.len K → same_set H K ≡ false
not_same_size H K ne = not_same H K (λ is. ne (ap set.len is))

-- an edge leads to a row exactly where it stands for the row's set
module _ (low : ℕ → IdSet) (r : ℕ) where
  abbrev LeadsRight : Edge → Type 0
  LeadsRight e = leads e r ≡ counted_by (same_set (edge_set low e) (low r))

  row_leads : (n : ℕ) → (low n ≡ low r → n ≡ r) → LeadsRight (ToRow n)
  row_leads n named =
      elim (nat_eq n r) as (λ b. nat_eq n r ≡ b → cond b 1 0 ≡ counted_by (same_set (low n) (low r))) [
        | true ↦ λ e. sym (ap counted_by (ap (λ m. same_set (low m) (low r)) (same_number n r e) ∙ same_itself (low r)))
        | false ↦ λ e. sym (ap counted_by (not_same (low n) (low r) (λ is.
            let t : true ≡ false = sym (eq_itself r) ∙ ap (λ m. nat_eq m r) (sym (named is)) ∙ e in
            cc)))
      ] refl

  triple_leads : ((n m : ℕ) → 1 ≤ set.len (low n) → 1 ≤ set.len (low m) → low n ≡ low m → n ≡ m) → 1 ≤ set.len (low r) → (e : Edge) → IsTripleEdge low e → LeadsRight e
  triple_leads named some (Key x) fit = absurd fit
  triple_leads named some (ToRow n) fit = row_leads n (λ is. named n r fit some is)

  pair_leads : ((n m : ℕ) → 1 ≤ set.len (low n) → 1 ≤ set.len (low m) → low n ≡ low m → n ≡ m) → 2 ≤ set.len (low r) → (e : Edge) → IsPairEdge low e → LeadsRight e
  pair_leads named large (Key x) fit = sym (ap counted_by (not_same_size (edge_set low (Key x)) (low r) (λ is. let one = len-single total exact (x.0 ∷ []) in omega arith)))
  pair_leads named large (ToRow n) fit = row_leads n (λ is. named n r (omega arith) (omega arith) is)

module _ (fit : Edge → Type 0) (low : ℕ → IdSet) (filled : (e : Edge) → fit e → edge_set low e ≢ empty nat_cmp) (H : IdSet) (i : ℕ) (m : Edges) (slices : AreSlices fit low H i m) where
  no_key : (k : ℕ) → slice nat_cmp H i k ≡ empty nat_cmp → set.contains (keys nat_cmp H i) k ≡ false
  no_key k none =
      elim (set.contains (keys nat_cmp H i) k) as (λ b. set.contains (keys nat_cmp H i) k ≡ b → b ≡ false) [
        | true ↦ λ e. absurd (key-slice total exact H i k e none)
        | false ↦ λ e. refl
      ] refl

  a_key : (k : ℕ) → slice nat_cmp H i k ≢ empty nat_cmp → set.contains (keys nat_cmp H i) k ≡ true
  a_key k some =
      elim (set.contains (keys nat_cmp H i) k) as (λ b. set.contains (keys nat_cmp H i) k ≡ b → b ≡ true) [
        | true ↦ λ e. refl
        | false ↦ λ e. absurd (some (slice-no_key total exact H i k e))
      ] refl

  -- as many edges lead to a row as keys of the position have its set for their slice
  edges-times : (r : ℕ) → ((e : Edge) → fit e → LeadsRight low r e) → edges_in m r ≡ times nat_cmp H i (low r)
  edges-times r right = sum_over-alike total exact (λ _ e. leads e r) test m (marked (keys nat_cmp H i)) (λ k. under k (map.get m k) (slices k) ∙ sym (ap (part test k) (get-marked total exact (keys nat_cmp H i) k))) ∙ sym (times-sum total exact H i (low r)) where
    test : ℕ → Unit {0} → ℕ
    test k u = counted_by (same_set (slice nat_cmp H i k) (low r))

    under : (k : ℕ) (o : Option Edge) → StandsFor fit low (slice nat_cmp H i k) o → part (λ _ e. leads e r) k o ≡ part test k (cond (set.contains (keys nat_cmp H i) k) (Some tt) None)
    under k None s = sym (ap (λ b. part test k (cond b (Some tt) None)) (no_key k s))
    under k (Some e) s =
        right e s.0 ∙ ap (λ S. counted_by (same_set S (low r))) s.1
        ∙ sym (ap (λ b. part test k (cond b (Some tt) None)) (a_key k (λ none. filled e s.0 (s.1 ∙ none))))

  -- each slice has an edge that stands for it
  slice_edge : (S : IdSet) → IsSlice total exact H i S → (e : Edge) × (fit e) × (edge_set low e ≡ S)
  slice_edge S s = under (map.get m s.key) (slices s.key) where
    under : (o : Option Edge) → StandsFor fit low (slice nat_cmp H i s.key) o → (e : Edge) × (fit e) × (edge_set low e ≡ S)
    under None none = absurd (key-slice total exact H i s.key s.there none)
    under (Some e) p = (e, p.0, p.1 ∙ s.is)

module _ (mixed : ℕ → ℕ → ℕ → ℕ → ℕ) where
  -- a node has one tuple or more, and one of depth one or three has two or more
  pub node_filled : (d : ℕ) (low : ℕ → IdSet) (node : Node) → IsNode mixed d low node → 1 ≤ set.len (node_set d low node)
  node_filled zero low node f = absurd f
  node_filled (suc zero) low (Single p) f = absurd f
  node_filled (suc zero) low (Full s h a b c) f = let large = f.told.large in omega arith
  node_filled (suc (suc zero)) low (Single p) f = omega (arith, len-single total exact (pair_tuple p))
  node_filled (suc (suc zero)) low (Full s h a b c) f = let large = f.told.large in omega arith
  node_filled (suc (suc (suc d))) low (Single p) f = absurd f
  node_filled (suc (suc (suc d))) low (Full s h a b c) f = let large = f.told.large in omega arith

  pub key_node_large : (low : ℕ → IdSet) (node : Node) → IsNode mixed 1 low node → 2 ≤ set.len (node_set 1 low node)
  key_node_large low (Single p) f = absurd f
  key_node_large low (Full s h a b c) f = f.told.large

  pub triple_node_large : (low : ℕ → IdSet) (node : Node) → IsNode mixed 3 low node → 2 ≤ set.len (node_set 3 low node)
  triple_node_large low (Single p) f = absurd f
  triple_node_large low (Full s h a b c) f = f.told.large

  module _ (low : ℕ → IdSet) (named : (n m : ℕ) → 1 ≤ set.len (low n) → 1 ≤ set.len (low m) → low n ≡ low m → n ≡ m) where
    -- the edges of a node of depth three to a row are the slices that are the row's set
    pub triple_edges : (node : Node) → IsNode mixed 3 low node → (r : ℕ) → 1 ≤ set.len (low r) → edges_of node r ≡ count2 nat_cmp (set_over low node) (low r)
    triple_edges (Single p) f r some = absurd f
    triple_edges (Full s h a b c) f r some =
        let G = set_over low (Full s h a b c) in
        let right = triple_leads low r named some in
        let first = edges-times (IsTripleEdge low) low (filled_triple low) G 0 a f.first r right in
        let second = edges-times (IsTripleEdge low) low (filled_triple low) G 1 b f.second r right in
        let third = edges-times (IsTripleEdge low) low (filled_triple low) G 2 c f.third r right in
        omega (arith, count2-sum nat_cmp G (low r))

    -- and so are those of a node of depth two to a row of two or more keys; a pair has no such slice
    pub pair_edges : (node : Node) → IsNode mixed 2 low node → (r : ℕ) → 2 ≤ set.len (low r) → edges_of node r ≡ times nat_cmp (set_over low node) 0 (low r) + times nat_cmp (set_over low node) 1 (low r)
    pair_edges (Single p) f r large =
        omega (arith, times_single total exact (pair_tuple p) 0 (low r) large, times_single total exact (pair_tuple p) 1 (low r) large)
    pair_edges (Full s h a b c) f r large =
        let P = set_over low (Full s h a b c) in
        let right = pair_leads low r named large in
        let first = edges-times (IsPairEdge low) low (filled_pair low) P 0 a f.first r right in
        let second = edges-times (IsPairEdge low) low (filled_pair low) P 1 b f.second r right in
        let third = nothing_leads c r f.third in
        omega arith

    -- each slice of a node of depth three is the set of some row
    pub triple_slice : (node : Node) → IsNode mixed 3 low node → (P : IdSet) → set.contains (two nat_cmp (set_over low node)) P ≡ true → (n : ℕ) × (1 ≤ set.len (low n)) × (low n ≡ P)
    triple_slice (Single p) f P e = absurd f
    triple_slice (Full s h a b c) f P e =
        let G = set_over low (Full s h a b c) in
        has-two total exact G P e ((n : ℕ) × (1 ≤ set.len (low n)) × (low n ≡ P))
        (λ at. named_by (slice_edge (IsTripleEdge low) low (filled_triple low) G 0 a f.first P at))
        (λ at. named_by (slice_edge (IsTripleEdge low) low (filled_triple low) G 1 b f.second P at))
        (λ at. named_by (slice_edge (IsTripleEdge low) low (filled_triple low) G 2 c f.third P at)) where
          named_by : (e : Edge) × (IsTripleEdge low e) × (edge_set low e ≡ P) → (n : ℕ) × (1 ≤ set.len (low n)) × (low n ≡ P)
          named_by p = under p.0 p.1 p.2 where
            under : (e : Edge) → IsTripleEdge low e → edge_set low e ≡ P → (n : ℕ) × (1 ≤ set.len (low n)) × (low n ≡ P)
            under (Key x) fit is = absurd fit
            under (ToRow n) fit is = (n, fit, is)

    -- and so is each slice of two or more keys of a node of depth two
    pub pair_slice : (node : Node) → IsNode mixed 2 low node → (S : IdSet) → set.contains (large_slices nat_cmp (set_over low node)) S ≡ true → (n : ℕ) × (1 ≤ set.len (low n)) × (low n ≡ S)
    pair_slice node f S e =
        let both = has-large_slices total exact (set_over low node) S e in
        under node f both.0 (both.1 ((IsSlice total exact (set_over low node) 0 S) ⊎ (IsSlice total exact (set_over low node) 1 S)) inl inr) where
          single_slice : (p : Pair) (i : ℕ) → 2 ≤ set.len S → IsSlice total exact (set_over low (Single p)) i S → ⊥
          single_slice p i large at = let same = ap set.len at.is in omega (arith, len-slice_single total exact (pair_tuple p) i at.key)

          named_by : 2 ≤ set.len S → (e : Edge) → IsPairEdge low e → edge_set low e ≡ S → (n : ℕ) × (1 ≤ set.len (low n)) × (low n ≡ S)
          named_by large (Key x) fit is = absurd (let one = len-single total exact (x.0 ∷ []) in let same = ap set.len is in omega arith)
          named_by large (ToRow n) fit is = (n, omega arith, is)

          under : (node : Node) → IsNode mixed 2 low node → 2 ≤ set.len S → (IsSlice total exact (set_over low node) 0 S) ⊎ (IsSlice total exact (set_over low node) 1 S) → (n : ℕ) × (1 ≤ set.len (low n)) × (low n ≡ S)
          under (Single p) f large (inl at) = absurd (single_slice p 0 large at)
          under (Single p) f large (inr at) = absurd (single_slice p 1 large at)
          under (Full s h a b c) f large (inl at) =
              let p = slice_edge (IsPairEdge low) low (filled_pair low) (set_over low (Full s h a b c)) 0 a f.first S at in
              named_by large p.0 p.1 p.2
          under (Full s h a b c) f large (inr at) =
              let p = slice_edge (IsPairEdge low) low (filled_pair low) (set_over low (Full s h a b c)) 1 b f.second S at in
              named_by large p.0 p.1 p.2
