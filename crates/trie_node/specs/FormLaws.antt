-- A node in form is named by the set that it stands for, and its form looks at no other rows below than those that its edges lead to.
use Rattle.std.specs.Prelude.{◌≡◌, ℕ, ◌+◌, ◌<◌, ◌≤◌, ◌≢◌, ◌||◌, Bool, true, false, cond, nat_eq, List, [], ◌∷◌, refl, Option, None, Some, slice_index_or, is_some}
use Rattle.std.proofs.Common.{sym, ◌∙◌, ap, subst, arith}
use Rattle.std.proofs.lemmas.Bool.Decides.{nat_tests}
use Rattle.std.specs.Ordering.{nat_cmp}
use Rattle.std.specs.Cmp.{nat_cmp_total as total}
use Rattle.std.specs.Cmp.Lexicographic.{slice_cmp}
use Rattle.std.specs.FinMap as map
use Rattle.std.specs.FinMap.{nat_cmp-IsAntisymmetric as exact}
use Rattle.std.specs.FinSet as set
use Rattle.trie_depth.specs.declared.id.Id.{Id}
use Rattle.trie_depth.specs.declared.id.Pair.{Pair}
use Rattle.edge_map.specs.declared.edge.Edge.{Edge}
use Rattle.edge_map.specs.declared.edge.Edge.TheVariants.{Key, Node as ToRow}
use Rattle.edge_map.specs.Edges.{Edges}
use Rattle.hypertrie_model.specs.IdSets.{IdSet}
use Rattle.hypertrie_model.specs.Sets.{empty, single, has}
use Rattle.hypertrie_model.specs.SetLaws.{same_sets, has-single, len-single, single_names, tied-itself}
use Rattle.hypertrie_model.specs.Slices.{slice}
use Rattle.hypertrie_model.specs.MapLaws.{same_maps}
use Rattle.hypertrie_model.specs.Folds.{sum_over}
use Rattle.hypertrie_model.specs.FoldLaws.{sum_over-part}
use Rattle.hypertrie_model.specs.Unions.{union_over, has_under}
use Rattle.hypertrie_model.specs.UnionLaws.{has-union_over, has-union_over_nil}
use Rattle.trie_node.specs.declared.node.Node.{Node}
use Rattle.trie_node.specs.declared.node.Node.TheVariants.{Single, Full}
use Rattle.trie_node.specs.Sets.{edge_set, key_set_of, set_over, leads, edges_in, edges_of}
use Rattle.trie_node.specs.Forms.{IsPairEdge, IsTripleEdge, StandsFor, AreSlices, IsTold, IsKeyNode, IsPairNode, IsTripleNode}

head_of : (x y : ℕ) (xs ys : List ℕ) → x ∷ xs ≡ y ∷ ys → x ≡ y
head_of x y xs ys e = cc

-- an edge is named by the set that it stands for

module _ (low : ℕ → IdSet) where
  pub pair_edge : (apart : (n m : ℕ) → 2 ≤ set.len (low n) → 2 ≤ set.len (low m) → low n ≡ low m → n ≡ m) → (e f : Edge) → IsPairEdge low e → IsPairEdge low f → edge_set low e ≡ edge_set low f → e ≡ f
  pair_edge apart (Key x) (Key y) p q is = let same = head_of x.0 y.0 [] [] (single_names total exact (x.0 ∷ []) (y.0 ∷ []) is) in λ i. Key (record { 0 = same i })
  pair_edge apart (Key x) (ToRow m) p q is = let one = len-single total exact (x.0 ∷ []) in let both = ap set.len is in absurd (omega arith)
  pair_edge apart (ToRow n) (Key y) p q is = let one = len-single total exact (y.0 ∷ []) in let both = ap set.len is in absurd (omega arith)
  pair_edge apart (ToRow n) (ToRow m) p q is = ap ToRow (apart n m p q is)

  pub triple_edge : (apart : (n m : ℕ) → 1 ≤ set.len (low n) → 1 ≤ set.len (low m) → low n ≡ low m → n ≡ m) → (e f : Edge) → IsTripleEdge low e → IsTripleEdge low f → edge_set low e ≡ edge_set low f → e ≡ f
  triple_edge apart (Key x) f p q is = absurd p
  triple_edge apart (ToRow n) (Key y) p q is = absurd q
  triple_edge apart (ToRow n) (ToRow m) p q is = ap ToRow (apart n m p q is)

  pub filled_pair : (e : Edge) → IsPairEdge low e → edge_set low e ≢ empty nat_cmp
  filled_pair (Key x) p is = let one = len-single total exact (x.0 ∷ []) in let both = ap set.len is in let none = (set.len-empty (slice_cmp nat_cmp)) in omega arith
  filled_pair (ToRow n) p is = let both = ap set.len is in let none = (set.len-empty (slice_cmp nat_cmp)) in omega arith

  pub filled_triple : (e : Edge) → IsTripleEdge low e → edge_set low e ≢ empty nat_cmp
  filled_triple (Key x) p is = p
  filled_triple (ToRow n) p is = let both = ap set.len is in let none = (set.len-empty (slice_cmp nat_cmp)) in omega arith

module _ (fit : Edge → Type 0) (low : ℕ → IdSet) (named : (e f : Edge) → fit e → fit f → edge_set low e ≡ edge_set low f → e ≡ f) (filled : (e : Edge) → fit e → edge_set low e ≢ empty nat_cmp) where
  one_edge : (S : IdSet) (o q : Option Edge) → StandsFor fit low S o → StandsFor fit low S q → o ≡ q
  one_edge S None None s t = refl
  one_edge S None (Some f) s t = absurd (filled f t.0 (t.1 ∙ s))
  one_edge S (Some e) None s t = absurd (filled e s.0 (s.1 ∙ t))
  one_edge S (Some e) (Some f) s t = ap Some (named e f s.0 t.0 (s.1 ∙ sym t.1))

  pub one_map : (H : IdSet) (i : ℕ) (m n : Edges) → AreSlices fit low H i m → AreSlices fit low H i n → m ≡ n
  one_map H i m n s t = same_maps total exact m n (λ k. one_edge (slice nat_cmp H i k) (map.get m k) (map.get n k) (s k) (t k))

module _ (hash : IdSet → ℕ) (low : ℕ → IdSet) where
  pub pair_node : (apart : (n m : ℕ) → 2 ≤ set.len (low n) → 2 ≤ set.len (low m) → low n ≡ low m → n ≡ m) → (x y : Node) → IsPairNode hash low x → IsPairNode hash low y → set_over low x ≡ set_over low y → x ≡ y
  pair_node apart (Single p) (Single q) f g is =
      let same = single_names total exact (p.0.0 ∷ p.1.0 ∷ []) (q.0.0 ∷ q.1.0 ∷ []) is in
      let one : p.0.0 ≡ q.0.0 = head_of _ _ _ _ same in
      let two : p.1.0 ≡ q.1.0 = ap (λ t. slice_index_or t 1 0) same in
      λ i. Single (record { 0 = record { 0 = one i }; 1 = record { 0 = two i } })
  pair_node apart (Single p) (Full s h a b c) f g is = let one = len-single total exact (p.0.0 ∷ p.1.0 ∷ []) in let both = ap set.len is in let large = g.told.large in absurd (omega arith)
  pair_node apart (Full s h a b c) (Single p) f g is = let one = len-single total exact (p.0.0 ∷ p.1.0 ∷ []) in let both = ap set.len is in let large = f.told.large in absurd (omega arith)
  pair_node apart (Full s h a b c) (Full t k x y z) f g is =
      let size : s ≡ t = f.told.sized ∙ ap set.len is ∙ sym g.told.sized in
      let same_hash : h ≡ k = f.told.hashed ∙ ap hash is ∙ sym g.told.hashed in
      let first : a ≡ x = one_map (IsPairEdge low) low (pair_edge low apart) (filled_pair low) (set_over low (Full t k x y z)) 0 a x (subst (λ H. AreSlices (IsPairEdge low) low H 0 a) is f.first) g.first in
      let second : b ≡ y = one_map (IsPairEdge low) low (pair_edge low apart) (filled_pair low) (set_over low (Full t k x y z)) 1 b y (subst (λ H. AreSlices (IsPairEdge low) low H 1 b) is f.second) g.second in
      let third : c ≡ z = f.third ∙ sym g.third in
      λ i. Full (size i) (same_hash i) (first i) (second i) (third i)

  pub triple_node : (apart : (n m : ℕ) → 1 ≤ set.len (low n) → 1 ≤ set.len (low m) → low n ≡ low m → n ≡ m) → (x y : Node) → IsTripleNode hash low x → IsTripleNode hash low y → set_over low x ≡ set_over low y → x ≡ y
  triple_node apart (Single p) y f g is = absurd f
  triple_node apart (Full s h a b c) (Single p) f g is = absurd g
  triple_node apart (Full s h a b c) (Full t k x y z) f g is =
      let size : s ≡ t = f.told.sized ∙ ap set.len is ∙ sym g.told.sized in
      let same_hash : h ≡ k = f.told.hashed ∙ ap hash is ∙ sym g.told.hashed in
      let one = one_map (IsTripleEdge low) low (triple_edge low apart) (filled_triple low) (set_over low (Full t k x y z)) in
      let first : a ≡ x = one 0 a x (subst (λ H. AreSlices (IsTripleEdge low) low H 0 a) is f.first) g.first in
      let second : b ≡ y = one 1 b y (subst (λ H. AreSlices (IsTripleEdge low) low H 1 b) is f.second) g.second in
      let third : c ≡ z = one 2 c z (subst (λ H. AreSlices (IsTripleEdge low) low H 2 c) is f.third) g.third in
      λ i. Full (size i) (same_hash i) (first i) (second i) (third i)

  pub key_node : (x y : Node) → IsKeyNode hash x → IsKeyNode hash y → key_set_of x ≡ key_set_of y → x ≡ y
  key_node (Single p) y f g is = absurd f
  key_node (Full s h a b c) (Single p) f g is = absurd g
  key_node (Full s h a b c) (Full t k x y z) f g is =
      let size : s ≡ t = f.told.sized ∙ ap set.len is ∙ sym g.told.sized in
      let same_hash : h ≡ k = f.told.hashed ∙ ap hash is ∙ sym g.told.hashed in
      let first : a ≡ x = same_maps total exact a x (λ q. same_key_edge q (map.get a q) (map.get x q) (f.keys q) (g.keys q) (there q)) in
      let second : b ≡ y = f.second ∙ sym g.second in
      let third : c ≡ z = f.third ∙ sym g.third in
      λ i. Full (size i) (same_hash i) (first i) (second i) (third i) where
        there : (q : ℕ) → has_under (λ _. single nat_cmp []) (map.get a q) [] ≡ has_under (λ _. single nat_cmp []) (map.get x q) []
        there q = sym (has-union_over total exact a (λ _. single nat_cmp []) q []) ∙ ap (λ H. has H (q ∷ [])) is ∙ has-union_over total exact x (λ _. single nat_cmp []) q []

        same_key_edge : (q : ℕ) (o p : Option Edge) → ((e : Edge) → o ≡ Some e → e ≡ Key (record { 0 = q })) → ((e : Edge) → p ≡ Some e → e ≡ Key (record { 0 = q })) → has_under (λ _. single nat_cmp []) o [] ≡ has_under (λ _. single nat_cmp []) p [] → o ≡ p
        same_key_edge q None None k l e = refl
        same_key_edge q None (Some u) k l e = absurd (let t : false ≡ true = e ∙ has-single total exact [] [] in cc)
        same_key_edge q (Some u) None k l e = absurd (let t : true ≡ false = sym (has-single total exact [] []) ∙ e in cc)
        same_key_edge q (Some u) (Some v) k l e = ap Some (k u refl ∙ sym (l v refl))

eq_itself : (n : ℕ) → nat_eq n n ≡ true
eq_itself n = grind (arith, nat_tests)

-- the rows that a node's edges name stand for the same
abbrev pub SameBelow : (ℕ → IdSet) → (ℕ → IdSet) → Node → Type 0
SameBelow low new node = (r : ℕ) → 0 < edges_of node r → low r ≡ new r

abbrev EdgesSame : (ℕ → IdSet) → (ℕ → IdSet) → Edges → Type 0
EdgesSame low new m = (k : ℕ) (e : Edge) → map.get m k ≡ Some e → edge_set low e ≡ edge_set new e

module _ (low new : ℕ → IdSet) where
  edge_set_same : (e : Edge) → ((r : ℕ) → 0 < leads e r → low r ≡ new r) → edge_set low e ≡ edge_set new e
  edge_set_same (Key x) h = refl
  edge_set_same (ToRow n) h = h n (subst (λ b. 0 < cond b 1 0) (sym (eq_itself n)) (omega arith))

  edges_same : (m : Edges) → ((r : ℕ) → 0 < sum_over m (λ _ e. leads e r) → low r ≡ new r) → EdgesSame low new m
  edges_same m h k e at = edge_set_same e (λ r pos. h r (omega (arith, sum_over-part total exact m (λ _ f. leads f r) k e at)))

  first_same : (s h : ℕ) (a b c : Edges) → SameBelow low new (Full s h a b c) → EdgesSame low new a
  first_same s h a b c same = edges_same a (λ r pos. same r (omega arith))

  second_same : (s h : ℕ) (a b c : Edges) → SameBelow low new (Full s h a b c) → EdgesSame low new b
  second_same s h a b c same = edges_same b (λ r pos. same r (omega arith))

  third_same : (s h : ℕ) (a b c : Edges) → SameBelow low new (Full s h a b c) → EdgesSame low new c
  third_same s h a b c same = edges_same c (λ r pos. same r (omega arith))

  union_same : (m : Edges) → EdgesSame low new m → union_over m (edge_set low) ≡ union_over m (edge_set new)
  union_same m same = same_sets total exact _ _ at where
    under : (k : ℕ) (u : List ℕ) (o : Option Edge) → map.get m k ≡ o → has_under (edge_set low) o u ≡ has_under (edge_set new) o u
    under k u None e = refl
    under k u (Some v) e = ap (λ H. has H u) (same k v e)

    at : (q : List ℕ) → has (union_over m (edge_set low)) q ≡ has (union_over m (edge_set new)) q
    at [] = has-union_over_nil total exact m (edge_set low) ∙ sym (has-union_over_nil total exact m (edge_set new))
    at (k ∷ u) = has-union_over total exact m (edge_set low) k u ∙ under k u (map.get m k) refl ∙ sym (has-union_over total exact m (edge_set new) k u)

  pub set_same : (node : Node) → SameBelow low new node → set_over low node ≡ set_over new node
  set_same (Single p) same = refl
  set_same (Full s h a b c) same = union_same a (first_same s h a b c same)

  slices_same : (fit : (ℕ → IdSet) → Edge → Type 0) → ((e : Edge) → edge_set low e ≡ edge_set new e → fit low e → fit new e) → (H K : IdSet) → H ≡ K → (i : ℕ) (m : Edges) → EdgesSame low new m → AreSlices (fit low) low H i m → AreSlices (fit new) new K i m
  slices_same fit fits H K is i m same s k = at (map.get m k) refl (s k) where
    at : (o : Option Edge) → map.get m k ≡ o → StandsFor (fit low) low (slice nat_cmp H i k) o → StandsFor (fit new) new (slice nat_cmp K i k) o
    at None e p = ap (λ G. slice nat_cmp G i k) (sym is) ∙ p
    at (Some v) e p = (fits v (same k v e) p.0, sym (same k v e) ∙ p.1 ∙ ap (λ G. slice nat_cmp G i k) is)

  fits_pair : (e : Edge) → edge_set low e ≡ edge_set new e → IsPairEdge low e → IsPairEdge new e
  fits_pair (Key x) same p = tt
  fits_pair (ToRow n) same p = subst (λ H. 2 ≤ set.len H) same p

  fits_triple : (e : Edge) → edge_set low e ≡ edge_set new e → IsTripleEdge low e → IsTripleEdge new e
  fits_triple (Key x) same p = p
  fits_triple (ToRow n) same p = subst (λ H. 1 ≤ set.len H) same p

  told_same : (hash : IdSet → ℕ) (H K : IdSet) (s h : ℕ) → H ≡ K → IsTold hash H s h → IsTold hash K s h
  told_same hash H K s h is t = subst (λ G. IsTold hash G s h) is t

  pub pair_node_same : (hash : IdSet → ℕ) (node : Node) → SameBelow low new node → IsPairNode hash low node → IsPairNode hash new node
  pair_node_same hash (Single p) same f = tt
  pair_node_same hash (Full s h a b c) same f =
      let is = set_same (Full s h a b c) same in
      record {
        told = told_same hash _ _ s h is f.told;
        first = slices_same IsPairEdge fits_pair _ _ is 0 a (first_same s h a b c same) f.first;
        second = slices_same IsPairEdge fits_pair _ _ is 1 b (second_same s h a b c same) f.second;
        third = f.third;
      }

  pub triple_node_same : (hash : IdSet → ℕ) (node : Node) → SameBelow low new node → IsTripleNode hash low node → IsTripleNode hash new node
  triple_node_same hash (Single p) same f = f
  triple_node_same hash (Full s h a b c) same f =
      let is = set_same (Full s h a b c) same in
      record {
        told = told_same hash _ _ s h is f.told;
        first = slices_same IsTripleEdge fits_triple _ _ is 0 a (first_same s h a b c same) f.first;
        second = slices_same IsTripleEdge fits_triple _ _ is 1 b (second_same s h a b c same) f.second;
        third = slices_same IsTripleEdge fits_triple _ _ is 2 c (third_same s h a b c same) f.third;
      }
