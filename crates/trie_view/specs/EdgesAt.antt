-- What the keys at a position say of the slices of a set: of a single tuple, and of the sets of nodes and maps.
use Rattle.std.specs.Prelude.{◌≡◌, ◌≢◌, ℕ, zero, suc, ◌+◌, ◌<◌, ◌≤◌, Bool, true, false, cond, List, [], ◌∷◌, length, slice_index, refl, is_some, Option, None, Some}
use Rattle.std.proofs.Common.{sym, ◌∙◌, ap, subst, arith}
use Rattle.std.proofs.lemmas.Bool.{false_from_ne_true}
use Rattle.std.specs.List.{remove}
use Rattle.std.specs.Coded.{Coded-set, coded_list, coded_ℕ}
use Rattle.std.specs.Ordering.{nat_cmp}
use Rattle.std.specs.Cmp.{nat_cmp_total as total}
use Rattle.std.specs.Cmp.Lexicographic.{slice_cmp}
use Rattle.std.specs.FinMap as map
use Rattle.std.specs.FinMap.{nat_cmp-IsAntisymmetric as exact}
use Rattle.std.specs.FinSet as set
use Rattle.hypertrie_model.specs.IdSets.{IdSet}
use Rattle.hypertrie_model.specs.Sets.{empty, single}
use Rattle.hypertrie_model.specs.SetLaws.{len-single, tied-itself}
use Rattle.hypertrie_model.specs.SingleLaws.{at_one, slice-single, slice-single_other, len-keys_of}
use Rattle.hypertrie_model.specs.Slices.{is_at, keys, slice}
use Rattle.hypertrie_model.specs.SliceLaws.{key-slice, slice-no_key}
use Rattle.hypertrie_model.specs.MapLaws.{by_key, get-insert_here, get-insert_other}
use Rattle.hypertrie_model.specs.Unions.{union_over}
use Rattle.hypertrie_model.specs.UnionSizes.{set_under, slice-union_over}
use Rattle.edge_map.specs.declared.edge.Edge.{Edge}
use Rattle.edge_map.specs.declared.edge.Edge.TheVariants.{Key}
use Rattle.edge_map.specs.Edges.{Edges}
use Rattle.trie_depth.specs.declared.id.Id.{Id}
use Rattle.trie_node.specs.declared.node.Node.{Node}
use Rattle.trie_node.specs.declared.node.Node.TheVariants.{Single, Full}
use Rattle.trie_node.specs.Sets.{edge_set, set_over, map_at}
use Rattle.trie_node.specs.Forms.{IsPairEdge, IsTripleEdge, StandsFor}
use Rattle.trie_node.specs.FormLaws.{filled_pair, filled_triple}
use Rattle.trie_context.specs.Kept.{IsNode}
use Rattle.trie_view.specs.declared.location.KeysAt.{KeysAt}
use Rattle.trie_view.specs.declared.location.KeysAt.TheVariants.{One, Of}
use Rattle.trie_view.specs.Places.{IsFull, IsThereIf, HasKeysAt, AreKeysAt, found, edge_at}

pub sets_prop : (H K : IdSet) → IsProp (H ≡ K)
sets_prop H K = Coded-set (set.code (coded_list coded_ℕ)) H K

there_prop : (S : IdSet) (o : Option Edge) → IsProp (IsThereIf S o)
there_prop S None = sets_prop S (empty nat_cmp)
there_prop S (Some e) = hlevel

pub keys_at_prop : (H : IdSet) (i : ℕ) (ks : KeysAt) → IsProp (AreKeysAt H i ks)
keys_at_prop H i (One x) = hlevel sets_prop
keys_at_prop H i (Of m) = hlevel there_prop

-- a single tuple

stands : (t : List ℕ) (i : ℕ) → i < length t → is_at nat_cmp i (slice_index t i) t ≡ true
stands [] i lt = absurd (omega arith)
stands (x ∷ t) zero lt = tied-itself total x
stands (x ∷ t) (suc i) lt = stands t i (omega arith)

-- its slice by the key that stands at the position, and by another one
pub single_slice : (t : List ℕ) (i k : ℕ) → i < length t → k ≡ slice_index t i → slice nat_cmp (single nat_cmp t) i k ≡ single nat_cmp (remove t i)
single_slice t i k lt is = slice-single total exact t i k (subst (λ q. is_at nat_cmp i q t ≡ true) (sym is) (stands t i lt))

pub single_other : (t : List ℕ) (i k : ℕ) → i < length t → k ≢ slice_index t i → slice nat_cmp (single nat_cmp t) i k ≡ empty nat_cmp
single_other t i k lt ne = slice-single_other total exact t i k (false_from_ne_true _ (λ e. ne (at_one total exact t i k (slice_index t i) e (stands t i lt))))

pub single_filled : (t : List ℕ) → single nat_cmp t ≢ empty nat_cmp
single_filled t none =
    let one = len-single total exact t in
    let same = ap set.len none in
    let zero_is = set.len-empty (slice_cmp nat_cmp) in
    omega arith

pub single_keys : (t : List ℕ) (i : ℕ) (x : Id) → i < length t → x.0 ≡ slice_index t i → AreKeysAt (single nat_cmp t) i (One x)
single_keys t i x lt is = (λ none. single_filled (remove t i) (sym (single_slice t i x.0 lt is) ∙ none), λ k ne. single_other t i k lt (λ e. ne (e ∙ sym is)))

-- nodes and maps

module _ (fit : Edge → Type 0) (low : ℕ → IdSet) (filled : (e : Edge) → fit e → edge_set low e ≢ empty nat_cmp) where
  stands_there : (S : IdSet) (o : Option Edge) → StandsFor fit low S o → IsThereIf S o
  stands_there S None s = s
  stands_there S (Some e) s = λ none. filled e s.0 (s.1 ∙ none)

module _ (mixed : ℕ → ℕ → ℕ → ℕ → ℕ) (low : ℕ → IdSet) where
  -- the edges of a node stand for the slices of its set
  pub triples_edge : (n : Node) → IsNode mixed 3 low n → (i k : ℕ) → i < 3 → StandsFor (IsTripleEdge low) low (slice nat_cmp (set_over low n) i k) (edge_at n i k)
  triples_edge (Single p) f i k lt = absurd f
  triples_edge (Full s h a b c) f zero k lt = f.first k
  triples_edge (Full s h a b c) f (suc zero) k lt = f.second k
  triples_edge (Full s h a b c) f (suc (suc zero)) k lt = f.third k
  triples_edge (Full s h a b c) f (suc (suc (suc i))) k lt = absurd (omega arith)

  pub pairs_edge : (n : Node) → IsNode mixed 2 low n → IsFull n → (i k : ℕ) → i < 2 → StandsFor (IsPairEdge low) low (slice nat_cmp (set_over low n) i k) (edge_at n i k)
  pairs_edge (Single p) f full i k lt = absurd full
  pairs_edge (Full s h a b c) f full zero k lt = f.first k
  pairs_edge (Full s h a b c) f full (suc zero) k lt = f.second k
  pairs_edge (Full s h a b c) f full (suc (suc i)) k lt = absurd (omega arith)

  -- a full node has a map at each position, which has the keys of the position
  pub triples_keys : (n : Node) → IsNode mixed 3 low n → (i : ℕ) → i < 3 → (m : Edges) → map_at n i ≡ Some m → HasKeysAt (set_over low n) i m
  triples_keys n f i lt m at k = stands_there (IsTripleEdge low) low (filled_triple low) _ (map.get m k) (subst (λ o. StandsFor (IsTripleEdge low) low (slice nat_cmp (set_over low n) i k) (found o k)) at (triples_edge n f i k lt))

  pub pairs_keys : (n : Node) → IsNode mixed 2 low n → IsFull n → (i : ℕ) → i < 2 → (m : Edges) → map_at n i ≡ Some m → HasKeysAt (set_over low n) i m
  pairs_keys n f full i lt m at k = stands_there (IsPairEdge low) low (filled_pair low) _ (map.get m k) (subst (λ o. StandsFor (IsPairEdge low) low (slice nat_cmp (set_over low n) i k) (found o k)) at (pairs_edge n f full i k lt))

  pub triples_full : (n : Node) → IsNode mixed 3 low n → IsFull n
  triples_full (Single p) f = f
  triples_full (Full s h a b c) f = tt

pub full_map : (n : Node) → IsFull n → (i : ℕ) → map_at n i ≡ None → ⊥
full_map (Single p) full i e = full
full_map (Full s h a b c) full zero e = cc
full_map (Full s h a b c) full (suc zero) e = cc
full_map (Full s h a b c) full (suc (suc i)) e = cc

-- a map stands for the set of its keys
pub map_keys : (m : Edges) → HasKeysAt (union_over m (λ _. single nat_cmp [])) 0 m
map_keys m k = by (map.get m k) (slice-union_over total exact m (λ _. single nat_cmp []) k) where
  by : (o : Option Edge) → slice nat_cmp (union_over m (λ _. single nat_cmp [])) 0 k ≡ set_under nat_cmp (λ _. single nat_cmp []) o → IsThereIf (slice nat_cmp (union_over m (λ _. single nat_cmp [])) 0 k) o
  by None is = is
  by (Some e) is = λ none. single_filled [] (sym is ∙ none)

-- how many keys there are

contains_if : (H : IdSet) (i k : ℕ) (o : Option Edge) → IsThereIf (slice nat_cmp H i k) o → set.contains (keys nat_cmp H i) k ≡ is_some o
contains_if H i k None none = false_from_ne_true _ (λ e. key-slice total exact H i k e none)
contains_if H i k (Some e) some = by (set.contains (keys nat_cmp H i) k) refl where
  by : (b : Bool) → set.contains (keys nat_cmp H i) k ≡ b → b ≡ true
  by true e = refl
  by false e = absurd (some (slice-no_key total exact H i k e))

pub map_count : (H : IdSet) (i : ℕ) (m : Edges) → HasKeysAt H i m → set.len (keys nat_cmp H i) ≡ map.len m
map_count H i m has = len-keys_of total exact m (keys nat_cmp H i) (λ k. contains_if H i k (map.get m k) (has k))

pub one_count : (H : IdSet) (i : ℕ) (x : Id) → AreKeysAt H i (One x) → set.len (keys nat_cmp H i) ≡ 1
one_count H i x has = map_count H i one here ∙ map.len-insert total none x.0 (Key x) ∙ ap (λ r. cond (is_some r) (map.len none) (map.len none + 1)) (map.get-empty nat_cmp x.0) ∙ ap (λ n. n + 1) (map.len-empty nat_cmp Edge) where
  none : Edges
  none = map.empty

  one : Edges
  one = map.insert none x.0 (Key x)

  here : HasKeysAt H i one
  here k = by_key total exact (λ _. IsThereIf (slice nat_cmp H i k) (map.get one k)) k x.0
      (λ is. subst (IsThereIf (slice nat_cmp H i k)) (sym (ap (map.get one) is ∙ get-insert_here total exact none x.0 (Key x))) (λ gone. has.0 (ap (slice nat_cmp H i) (sym is) ∙ gone)))
      (λ ne. subst (IsThereIf (slice nat_cmp H i k)) (sym (get-insert_other total exact none x.0 (Key x) k ne ∙ map.get-empty nat_cmp k)) (has.1 k ne))
