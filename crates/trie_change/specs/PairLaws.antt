-- Sets of pairs: the slices of one pair, rows of depth two, and the node of a set given by its parts.
use Rattle.std.specs.Prelude.{◌≡◌, ℕ, zero, suc, ◌-◌, ◌<◌, ◌≤◌, ◌^◌, ◌≢◌, ◌&&◌, ◌||◌, Bool, true, false, cond, List, [], ◌∷◌, length, refl, Option, None, Some, IsSome, IfSome, Result, Ok, Err, IfOk, OnErr, bit_xor}
use Rattle.std.proofs.Common.{sym, ◌∙◌, ap, subst, arith}
use Rattle.std.proofs.lemmas.Cmp.{lists_total}
use Rattle.std.specs.Int.Bits.{xor_zero_r}
use Rattle.std.specs.Ordering.{nat_cmp, eq_by_cmp}
use Rattle.std.specs.Cmp.{nat_cmp_total as total}
use Rattle.std.specs.Cmp.Lexicographic.{slice_cmp}
use Rattle.std.specs.FinMap as map
use Rattle.std.specs.FinMap.{nat_cmp-IsAntisymmetric as exact}
use Rattle.std.specs.FinSet as set
use Rattle.std.specs.FinSet.{slice_cmp-IsAntisymmetric}
use native.Mathlib.Decide.{dec_le, dec_lt}
use Rattle.hypertrie_model.specs.IdSets.{IdSet}
use Rattle.hypertrie_model.specs.Sets.{has, empty, single, HasDepth}
use Rattle.hypertrie_model.specs.SetLaws.{same_sets, tied-itself, has-single, len-single}
use Rattle.hypertrie_model.specs.SetInduction.{set_ind, set_insert-remove}
use Rattle.hypertrie_model.specs.Slices.{slice}
use Rattle.hypertrie_model.specs.SliceLaws.{has-slice, has-slice_short}
use Rattle.hypertrie_model.specs.Folds.{xor_over}
use Rattle.hypertrie_model.specs.FoldLaws.{sum_over-has, sum_over-empty, xor_over-empty, xor_over-insert}
use Rattle.hypertrie_model.specs.UnionLaws.{tied-cons}
use Rattle.hypertrie_model.specs.Changes.{after, IsChange}
use Rattle.hypertrie_model.specs.SliceSizes.{len-slice}
use Rattle.hypertrie_model.specs.ChangeLaws.{slice-change, slice-after}
use Rattle.trie_depth.specs.declared.id.Id.{Id}
use Rattle.trie_depth.specs.declared.id.Pair.{Pair}
use Rattle.trie_depth.specs.Tuples.{pair_tuple, pair_key, pair_without}
use Rattle.edge_map.specs.declared.edge.Edge.{Edge}
use Rattle.edge_map.specs.declared.edge.Edge.TheVariants.{Key, Node as ToRow}
use Rattle.edge_map.specs.Edges.{Edges}
use Rattle.node_table.specs.Table.{Row}
use Rattle.trie_node.specs.declared.node.Node.{Node}
use Rattle.trie_node.specs.declared.node.Node.TheVariants.{Single, Full}
use Rattle.trie_node.specs.Sets.{edge_set, set_over, size_of, tuple_mix, set_hash, hash_of_node, leads, edges_in}
use Rattle.trie_node.specs.Forms.{IsPairEdge, StandsFor, AreSlices, IsPairNode}
use Rattle.trie_context.specs.declared.tables.Tables.{Tables}
use Rattle.trie_context.specs.Rows.{row_of, node_set, row_set, set_of}
use Rattle.trie_context.specs.Kept.{AreKept}
use Rattle.trie_context.specs.RowLaws.{row_there}
use Rattle.trie_context.specs.FitEdges.{FitsAt, set_at, StandsAt}
use Rattle.trie_context.specs.EdgeLaws.{filled_there, stands_is}
use Rattle.trie_change.specs.declared.change.Change.{Change}
use Rattle.trie_change.specs.Changes.{grows}
use Rattle.trie_change.specs.Rooms.{FitsSome, AreSlicesAt, AreChanges, AreChanged, AreSmallAfter}
use Rattle.trie_change.specs.Nodes.{ArePairParts, IsPairNodeOf}
use Rattle.trie_context.specs.DepthLaws.{first_is}
use Rattle.trie_change.specs.DepthLaws.{slice-empty}

-- one pair

and_swap : (a b c : Bool) → (a && (b && c)) ≡ (b && (a && c))
and_swap true b c = refl
and_swap false true c = refl
and_swap false false c = refl

and-false : (a : Bool) → false ≡ (a && false)
and-false true = refl
and-false false = refl

-- the slices of the pair (a, b): b where the first key is a, and a where the second is b
module _ (a b : ℕ) where
  has-slice_first : (k : ℕ) (u : List ℕ) → has (slice nat_cmp (single nat_cmp (a ∷ b ∷ [])) 0 k) u ≡ (eq_by_cmp nat_cmp k a && eq_by_cmp (slice_cmp nat_cmp) u (b ∷ []))
  has-slice_first k u = has-slice total exact (single nat_cmp (a ∷ b ∷ [])) 0 k u (omega arith) ∙ has-single total exact (a ∷ b ∷ []) (k ∷ u) ∙ tied-cons nat_cmp k a u (b ∷ [])

  has-slice_second : (k : ℕ) (u : List ℕ) → has (slice nat_cmp (single nat_cmp (a ∷ b ∷ [])) 1 k) u ≡ (eq_by_cmp nat_cmp k b && eq_by_cmp (slice_cmp nat_cmp) u (a ∷ []))
  has-slice_second k [] = has-slice_short total exact (single nat_cmp (a ∷ b ∷ [])) 1 k [] (omega arith) ∙ and-false (eq_by_cmp nat_cmp k b)
  has-slice_second k (x ∷ u) =
      has-slice total exact (single nat_cmp (a ∷ b ∷ [])) 1 k (x ∷ u) (omega arith)
      ∙ has-single total exact (a ∷ b ∷ []) (x ∷ k ∷ u)
      ∙ tied-cons nat_cmp x a (k ∷ u) (b ∷ [])
      ∙ ap (λ c. eq_by_cmp nat_cmp x a && c) (tied-cons nat_cmp k b u [])
      ∙ and_swap (eq_by_cmp nat_cmp x a) (eq_by_cmp nat_cmp k b) (eq_by_cmp (slice_cmp nat_cmp) u [])
      ∙ ap (λ c. eq_by_cmp nat_cmp k b && c) (sym (tied-cons nat_cmp x a u []))

-- a set of one key under a test is the key or nothing
module _ (S : IdSet) (w : ℕ) where
  abbrev IsKeyIf : Bool → Type 0
  IsKeyIf c = (u : List ℕ) → has S u ≡ (c && eq_by_cmp (slice_cmp nat_cmp) u (w ∷ []))

  key_if : IsKeyIf true → single nat_cmp (w ∷ []) ≡ S
  key_if is = same_sets total exact _ _ (λ u. has-single total exact (w ∷ []) u ∙ sym (is u))

  none_if : IsKeyIf false → S ≡ empty nat_cmp
  none_if is = same_sets total exact _ _ (λ u. is u ∙ sym (set.contains-empty (slice_cmp nat_cmp) u))

  stands_if : (low : ℕ → IdSet) (c : Bool) → IsKeyIf c → StandsFor (IsPairEdge low) low S (cond c (Some (Key (record { 0 = w }))) None)
  stands_if low true is = (tt, key_if is)
  stands_if low false is = none_if is

  small_if : (c : Bool) → IsKeyIf c → set.len S ≤ 1
  small_if true is = let e = ap set.len (key_if is) in let one = len-single total exact (w ∷ []) in omega arith
  small_if false is = let e = ap set.len (none_if is) in let none = set.len-empty (slice_cmp nat_cmp) in omega arith

get-lone : (key k : ℕ) (e : Edge) → map.get (map.insert (map.empty {R = nat_cmp}) key e) k ≡ cond (eq_by_cmp nat_cmp k key) (Some e) None
get-lone key k e = map.get-insert total map.empty key e k ∙ ap (cond (eq_by_cmp nat_cmp k key) (Some e)) (map.get-empty nat_cmp k)

-- the map of one pair at a position
pub lone_slices : (low : ℕ → IdSet) (p : Pair) (i : ℕ) → i < 2 → AreSlices (IsPairEdge low) low (single nat_cmp (pair_tuple p)) i (map.insert map.empty (pair_key p i).0 (Key (pair_without p i)))
lone_slices low p zero within k = subst (StandsFor (IsPairEdge low) low _) (sym (get-lone p.0.0 k (Key p.1))) (stands_if _ p.1.0 low (eq_by_cmp nat_cmp k p.0.0) (has-slice_first p.0.0 p.1.0 k))
lone_slices low p (suc zero) within k = subst (StandsFor (IsPairEdge low) low _) (sym (get-lone p.1.0 k (Key p.0))) (stands_if _ p.0.0 low (eq_by_cmp nat_cmp k p.1.0) (has-slice_second p.0.0 p.1.0 k))
lone_slices low p (suc (suc i)) within k = absurd (omega arith)

lone_small : (a b i k : ℕ) → i < 2 → set.len (slice nat_cmp (single nat_cmp (a ∷ b ∷ [])) i k) ≤ 1
lone_small a b zero k within = small_if _ b (eq_by_cmp nat_cmp k a) (has-slice_first a b k)
lone_small a b (suc zero) k within = small_if _ a (eq_by_cmp nat_cmp k b) (has-slice_second a b k)
lone_small a b (suc (suc i)) k within = absurd (omega arith)

-- no edge of one pair leads to a row
pub lone_leads : (low : ℕ → IdSet) (a b i : ℕ) (m : Edges) → i < 2 → AreSlices (IsPairEdge low) low (single nat_cmp (a ∷ b ∷ [])) i m → (r : ℕ) → edges_in m r ≡ 0
lone_leads low a b i m within slices r = elim (dec_lt 0 (edges_in m r)) as (λ _. edges_in m r ≡ 0) [
  | yes pos ↦ let p = sum_over-has total exact (λ _ e. leads e r) m pos in absurd (nowhere p.0 p.1 (subst (StandsFor (IsPairEdge low) low (slice nat_cmp (single nat_cmp (a ∷ b ∷ [])) i p.0)) p.2 (slices p.0)) p.3)
  | no none ↦ omega arith
] where
  nowhere : (k : ℕ) (e : Edge) → StandsFor (IsPairEdge low) low (slice nat_cmp (single nat_cmp (a ∷ b ∷ [])) i k) (Some e) → 0 < leads e r → ⊥
  nowhere k (Key x) stands pos = omega arith
  nowhere k (ToRow n) stands pos = let few = lone_small a b i k within in let e = ap set.len stands.1 in omega (arith, stands.0)

-- no tuple

-- the map of no pair
pub empty_slices : (t : Tables) (d : ℕ) (S : IdSet) (i : ℕ) → S ≡ empty nat_cmp → AreSlicesAt t d S i map.empty
empty_slices t d S i is k = subst (StandsFor (FitsAt t d) (set_of t d) (slice nat_cmp S i k)) (sym (map.get-empty nat_cmp k)) (ap (λ H. slice nat_cmp H i k) is ∙ slice-empty i k)

pub none_size : set.len (empty nat_cmp) ≡ 0
none_size = set.len-empty (slice_cmp nat_cmp)

pub none_hash : (f : List ℕ → ℕ) → xor_over (empty nat_cmp) f ≡ 0
none_hash f = xor_over-empty (lists_total total) (slice_cmp-IsAntisymmetric exact) f

-- the same position and map
pub slices_as : (t : Tables) (d : ℕ) (S : IdSet) (i j : ℕ) (m n : Edges) → i ≡ j → m ≡ n → AreSlicesAt t d S j n → AreSlicesAt t d S i m
slices_as t d S i j m n place is slices = subst (λ k. AreSlicesAt t d S k m) (sym place) (subst (AreSlicesAt t d S j) (sym is) slices)

-- rows of depth two

pub some_at : {X : Type 0} (P : X → Type 0) (o : Option X) {x : X} → o ≡ Some x → IfSome o P → P x
some_at P o e holds = subst (λ q. IfSome q P) e holds

-- an edge into depth two leads to a row that is there
pub pair_edge_there : (t : Tables) (edge : Option Edge) (e : Edge) (n : ℕ) → edge ≡ Some e → e ≡ ToRow n → FitsSome t 2 edge → IsSome (row_of t 2 n)
pair_edge_there t edge e n is leads fits = filled_there t 2 n (subst (FitsAt t 2) leads (some_at (FitsAt t 2) edge is fits))

-- a key is no edge into depth two
pub no_pair_edge : (t : Tables) (edge : Option Edge) → ((n : ℕ) → edge ≢ Some (ToRow n)) → FitsSome t 2 edge → set_at t 2 edge ≡ empty nat_cmp
no_pair_edge t None other fits = refl
no_pair_edge t (Some (Key x)) other fits = absurd fits
no_pair_edge t (Some (ToRow n)) other fits = absurd (other n refl)

pub pair_edge_set : (t : Tables) (edge : Option Edge) (e : Edge) (n : ℕ) → edge ≡ Some e → e ≡ ToRow n → set_at t 2 edge ≡ set_of t 2 n
pair_edge_set t edge e n is leads = ap (set_at t 2) is ∙ ap (edge_set (set_of t 2)) leads

-- a row of depth two with this node
pub record IsPairRow (mixed : ℕ → ℕ → ℕ → ℕ → ℕ) (t : Tables) (n : ℕ) (node : Node) : Type 0 where
  pub stands : set_of t 2 n ≡ set_over (set_of t 1) node
  pub formed : IsPairNode (set_hash mixed 2) (set_of t 1) node

pair_row : (mixed : ℕ → ℕ → ℕ → ℕ → ℕ) (t : Tables) → AreKept mixed t → (n : ℕ) (node : Node) → IsSome (row_of t 2 n) → IfSome (row_of t 2 n) (λ r. r.node ≡ node) → IsPairRow mixed t n node
pair_row mixed t kept n node there is =
    let row = row_there (row_of t 2 n) there in
    let same : row.0.node ≡ node = some_at (λ (r : Row Node). r.node ≡ node) (row_of t 2 n) row.1 is in
    record {
      stands = ap (row_set (node_set 2 (set_of t 1))) row.1 ∙ ap (set_over (set_of t 1)) same;
      formed = subst (IsPairNode (set_hash mixed 2) (set_of t 1)) same ((kept 1).formed n row.0 row.1);
    }

-- the row that an edge into depth two leads to
pub edge_row : (mixed : ℕ → ℕ → ℕ → ℕ → ℕ) (t : Tables) → AreKept mixed t → (edge : Option Edge) (e : Edge) (n : ℕ) → edge ≡ Some e → e ≡ ToRow n → FitsSome t 2 edge → (node : Node) → IfSome (row_of t 2 n) (λ r. r.node ≡ node) → IsPairRow mixed t n node
edge_row mixed t kept edge e n is leads fits node found = pair_row mixed t kept n node (pair_edge_there t edge e n is leads fits) found

xor_over-single : (f : List ℕ → ℕ) (t : List ℕ) → xor_over (single nat_cmp t) f ≡ f t
xor_over-single f t =
    xor_over-insert (lists_total total) (slice_cmp-IsAntisymmetric exact) (empty nat_cmp) f t (set.contains-empty (slice_cmp nat_cmp) t)
    ∙ ap (bit_xor (f t)) (none_hash f)
    ∙ xor_zero_r (f t)

module _ (mixed : ℕ → ℕ → ℕ → ℕ → ℕ) (t : Tables) (n : ℕ) where
  pub row_size : (node : Node) → IsPairRow mixed t n node → size_of node ≡ set.len (set_of t 2 n)
  row_size (Single p) row = sym (ap set.len row.stands ∙ len-single total exact (pair_tuple p))
  row_size (Full s h a b c) row = row.formed.told.sized ∙ sym (ap set.len row.stands)

  pub row_hash : (node : Node) → IsPairRow mixed t n node → hash_of_node mixed node ≡ set_hash mixed 2 (set_of t 2 n)
  row_hash (Single p) row = sym (ap (set_hash mixed 2) row.stands ∙ xor_over-single (tuple_mix mixed 2) (pair_tuple p))
  row_hash (Full s h a b c) row = row.formed.told.hashed ∙ sym (ap (set_hash mixed 2) row.stands)

  pub row_single : (p : Pair) (i : ℕ) → i < 2 → IsPairRow mixed t n (Single p) → AreSlicesAt t 1 (set_of t 2 n) i (map.insert map.empty (pair_key p i).0 (Key (pair_without p i)))
  row_single p i within row = subst (λ H. AreSlices (IsPairEdge (set_of t 1)) (set_of t 1) H i (map.insert map.empty (pair_key p i).0 (Key (pair_without p i)))) (sym row.stands) (lone_slices (set_of t 1) p i within)

  module _ (s h : ℕ) (a b c : Edges) (row : IsPairRow mixed t n (Full s h a b c)) where
    pub row_first : AreSlicesAt t 1 (set_of t 2 n) 0 a
    row_first = subst (λ H. AreSlices (IsPairEdge (set_of t 1)) (set_of t 1) H 0 a) (sym row.stands) row.formed.first

    pub row_second : AreSlicesAt t 1 (set_of t 2 n) 1 b
    row_second = subst (λ H. AreSlices (IsPairEdge (set_of t 1)) (set_of t 1) H 1 b) (sym row.stands) row.formed.second

-- the slices of the set that an edge stands for
pub edge_slices : (t : Tables) (edge : Option Edge) (e : Edge) (n : ℕ) → edge ≡ Some e → e ≡ ToRow n → (i : ℕ) (m : Edges) → AreSlicesAt t 1 (set_of t 2 n) i m → AreSlicesAt t 1 (set_at t 2 edge) i m
edge_slices t edge e n is leads i m slices = subst (λ H. AreSlicesAt t 1 H i m) (sym (pair_edge_set t edge e n is leads)) slices

pub if_ok : {T E : Type 0} (P Q : T → Type 0) (r : Result T E) → ((x : T) → P x → Q x) → IfOk r P → IfOk r Q
if_ok P Q (Ok x) then h = then x h
if_ok P Q (Err e) then h = h

pub on_err : {T E : Type 0} (P : Type 0) (r : Result T E) → P → OnErr r P
on_err P (Ok x) h = tt
on_err P (Err e) h = h

-- the node of a set given by its parts

one_member : (H : IdSet) → 1 ≤ set.len H → (t : List ℕ) × (has H t ≡ true)
one_member = set_ind (lists_total total) (slice_cmp-IsAntisymmetric exact) (λ H. 1 ≤ set.len H → (t : List ℕ) × (has H t ≡ true))
    (λ some. absurd (let none = set.len-empty (slice_cmp nat_cmp) in omega arith))
    (λ H t new _ _. (t, set.contains-insert (lists_total total) H t t ∙ ap (λ b. b || set.contains H t) (tied-itself (lists_total total) t)))

one_is_single : (H : IdSet) (t : List ℕ) → set.len H ≡ 1 → has H t ≡ true → H ≡ single nat_cmp t
one_is_single H t one there =
    let none : set.len (set.remove H t) ≡ 0 = set.len-remove (lists_total total) H t ∙ ap (λ b. cond b (set.len H - 1) (set.len H)) there ∙ ap (λ n. n - 1) one in
    sym (set_insert-remove (lists_total total) (slice_cmp-IsAntisymmetric exact) H t there) ∙ ap (λ S. set.insert S t) (set.empty_of_len (set.remove H t) none)

-- a set of one pair is that pair
lone_pair : (H : IdSet) → HasDepth 2 H → set.len H ≡ 1 → (a : ℕ) × (b : ℕ) × (H ≡ single nat_cmp (a ∷ b ∷ []))
lone_pair H deep one = let m = one_member H (omega arith) in by m.0 m.1 (deep m.0 m.1) where
  by : (t : List ℕ) → has H t ≡ true → length t ≡ 2 → (a : ℕ) × (b : ℕ) × (H ≡ single nat_cmp (a ∷ b ∷ []))
  by [] there long = absurd (omega arith)
  by (a ∷ []) there long = absurd (omega arith)
  by (a ∷ b ∷ []) there long = (a, b, one_is_single H (a ∷ b ∷ []) one there)
  by (a ∷ b ∷ x ∷ t) there long = absurd (omega arith)

module _ (mixed : ℕ → ℕ → ℕ → ℕ → ℕ) (low : ℕ → IdSet) (H : IdSet) (s h : ℕ) (a b : Edges) (parts : ArePairParts mixed low H s h a b) where
  -- what the edge under a first key stands for
  edge_there : (k : ℕ) (e : Edge) → map.get a k ≡ Some e → StandsFor (IsPairEdge low) low (slice nat_cmp H 0 k) (Some e)
  edge_there k e at = subst (StandsFor (IsPairEdge low) low (slice nat_cmp H 0 k)) at (parts.first k)

  -- the first key of one pair has a key
  lone_key : set.len H ≡ 1 → (k n : ℕ) → map.get a k ≢ Some (ToRow n)
  lone_key one k n at =
      let p = lone_pair H parts.deep one in
      let few : set.len (slice nat_cmp H 0 k) ≤ 1 = subst (λ S. set.len (slice nat_cmp S 0 k) ≤ 1) (sym p.2) (lone_small p.0 p.1 0 k (omega arith)) in
      let stands = edge_there k (ToRow n) at in
      let e = ap set.len stands.1 in
      omega (arith, stands.0)

  -- and is there
  lone_there : set.len H ≡ 1 → ((k : ℕ) → map.get a k ≡ None) → ⊥
  lone_there one none =
      let p = lone_pair H parts.deep one in
      let slices : slice nat_cmp H 0 p.0 ≡ empty nat_cmp = subst (StandsFor (IsPairEdge low) low (slice nat_cmp H 0 p.0)) (none p.0) (parts.first p.0) in
      let there : has H (p.0 ∷ p.1 ∷ []) ≡ true = ap (λ S. has S (p.0 ∷ p.1 ∷ [])) p.2 ∙ has-single total exact (p.0 ∷ p.1 ∷ []) (p.0 ∷ p.1 ∷ []) ∙ tied-itself (lists_total total) (p.0 ∷ p.1 ∷ []) in
      let f : false ≡ true = sym (set.contains-empty (slice_cmp nat_cmp) (p.1 ∷ [])) ∙ ap (λ S. has S (p.1 ∷ [])) (sym slices) ∙ has-slice total exact H 0 p.0 (p.1 ∷ []) (omega arith) ∙ there in
      cc

  -- so the set is larger where its first map is otherwise
  larger : 1 ≤ set.len H → (set.len H ≡ 1 → ⊥) → 2 ≤ set.len H
  larger some not = elim (dec_le 2 (set.len H)) as (λ _. 2 ≤ set.len H) [ yes le ↦ le | no gt ↦ absurd (not (omega arith)) ]

  pub large_apart : 1 ≤ set.len H → (s ≡ 1 → ⊥) → 2 ≤ set.len H
  large_apart some not = larger some (λ one. not (parts.sized ∙ one))

  pub large_row : 1 ≤ set.len H → (k n : ℕ) → map.get a k ≡ Some (ToRow n) → 2 ≤ set.len H
  large_row some k n at = larger some (λ one. lone_key one k n at)

  pub large_none : 1 ≤ set.len H → ((k : ℕ) → map.get a k ≡ None) → 2 ≤ set.len H
  large_none some none = larger some (λ one. lone_there one none)

  -- one pair: its first key leads to the other
  pub single_node : (key rest : Id) → s ≡ 1 → map.get a key.0 ≡ Some (Key rest) → IsPairNodeOf mixed low H a b (Single (record { 0 = key; 1 = rest }))
  single_node key rest one at =
      let stands = edge_there key.0 (Key rest) at in
      let there : has H (key.0 ∷ rest.0 ∷ []) ≡ true = sym (has-slice total exact H 0 key.0 (rest.0 ∷ []) (omega arith)) ∙ ap (λ S. has S (rest.0 ∷ [])) (sym stands.1) ∙ has-single total exact (rest.0 ∷ []) (rest.0 ∷ []) ∙ tied-itself (lists_total total) (rest.0 ∷ []) in
      let is : H ≡ single nat_cmp (key.0 ∷ rest.0 ∷ []) = one_is_single H (key.0 ∷ rest.0 ∷ []) (sym parts.sized ∙ one) there in
      record {
        formed = tt;
        stands = sym is;
        edges = λ r.
            let first = lone_leads low key.0 rest.0 0 a (omega arith) (subst (λ S. AreSlices (IsPairEdge low) low S 0 a) is parts.first) r in
            let second = lone_leads low key.0 rest.0 1 b (omega arith) (subst (λ S. AreSlices (IsPairEdge low) low S 1 b) is parts.second) r in
            omega arith;
      }

  -- two pairs or more
  pub full_node : (c : Edges) → c ≡ map.empty → 2 ≤ set.len H → IsPairNodeOf mixed low H a b (Full s h a b c)
  full_node c third large =
      let is = first_is (IsPairEdge low) low 1 H a parts.deep parts.first in
      record {
        formed = record {
          told = record { sized = parts.sized ∙ sym (ap set.len is); large = subst (λ S. 2 ≤ set.len S) (sym is) large; hashed = parts.hashed ∙ sym (ap (set_hash mixed 2) is) };
          first = subst (λ S. AreSlices (IsPairEdge low) low S 0 a) (sym is) parts.first;
          second = subst (λ S. AreSlices (IsPairEdge low) low S 1 b) (sym is) parts.second;
          third = third;
        };
        stands = is;
        edges = λ r. let none : edges_in c r ≡ 0 = ap (λ m. edges_in m r) third ∙ sum_over-empty total exact (λ _ e. leads e r) in omega arith;
      }

-- the edges at a position of a set, changed by the batch with that position first

module _ (change : Change) (t : Tables) (d : ℕ) (H B : IdSet) (i : ℕ) (old : Edges) (P : IdSet) where
  stands_for : AreSlicesAt t d H i old → (k : ℕ) → set_at t d (map.get old k) ≡ slice nat_cmp H i k
  stands_for slices k = stands_is t d (slice nat_cmp H i k) (map.get old k) (slices k)

  -- each edge's set may be changed
  pub changes_of : IsChange (grows change) H B → AreSlicesAt t d H i old → ((k : ℕ) → slice nat_cmp P 0 k ≡ slice nat_cmp B i k) → AreChanges change t d old P
  changes_of may slices turned k =
      subst (λ S. IsChange (grows change) S (slice nat_cmp P 0 k)) (sym (stands_for slices k))
      (subst (IsChange (grows change) (slice nat_cmp H i k)) (sym (turned k)) (slice-change total exact (grows change) H B i k may))

  -- and the new edges stand for the slices of the changed set
  pub slices_after : (u : Tables) → AreSlicesAt t d H i old → ((k : ℕ) → slice nat_cmp P 0 k ≡ slice nat_cmp B i k) → (m : Edges) → AreChanged change t u d old P m → AreSlicesAt u d (after (grows change) H B) i m
  slices_after u slices turned m changed k =
      subst (λ S. StandsAt u d S (map.get m k)) ((λ j. after (grows change) (stands_for slices k j) (turned k j)) ∙ sym (slice-after total exact (grows change) H B i k)) (changed k)

  -- the changed slices have no more tuples than the changed set
  pub small_after : AreSlicesAt t d H i old → ((k : ℕ) → slice nat_cmp P 0 k ≡ slice nat_cmp B i k) → set.len (after (grows change) H B) < 2 ^ 64 → AreSmallAfter change t d old P
  small_after slices turned small k =
      let is : after (grows change) (set_at t d (map.get old k)) (slice nat_cmp P 0 k) ≡ slice nat_cmp (after (grows change) H B) i k =
      (λ j. after (grows change) (stands_for slices k j) (turned k j)) ∙ sym (slice-after total exact (grows change) H B i k) in
      omega (arith, ap set.len is, len-slice total exact (after (grows change) H B) i k, small)
