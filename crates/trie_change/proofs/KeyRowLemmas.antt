-- The set that an edge into depth one stands for, and the row that it leads to.
use Rattle.std.proofs.Common.{◌≡◌, ℕ, ◌≤◌, true, false, cond, List, [], ◌∷◌, length, sym, ◌∙◌, ap, subst, refl, Option, None, Some, IfSome, bit_xor, arith}
use Rattle.std.proofs.lemmas.Cmp.{lists_total}
use Rattle.std.proofs.lemmas.Nat.{xor_comm}
use Rattle.std.specs.Ordering.{nat_cmp}
use Rattle.std.specs.Cmp.{nat_cmp_total as total}
use Rattle.std.specs.Cmp.Lexicographic.{slice_cmp}
use Rattle.std.specs.FinMap as map
use Rattle.std.specs.FinMap.{nat_cmp-IsAntisymmetric as exact}
use Rattle.std.specs.FinSet as set
use Rattle.std.specs.FinSet.{slice_cmp-IsAntisymmetric}
use Rattle.hypertrie_model.specs.IdSets.{IdSet}
use Rattle.hypertrie_model.specs.Sets.{has, empty, single, HasDepth}
use Rattle.hypertrie_model.specs.SetLaws.{has-single, tied-itself, tied-is}
use Rattle.hypertrie_model.specs.FoldLaws.{xor_over-empty, xor_over-insert}
use Rattle.hypertrie_model.specs.Unions.{union_over, has_under}
use Rattle.hypertrie_model.specs.UnionLaws.{has-union_over, has-union_over_nil}
use Rattle.trie_depth.specs.declared.id.Id.{Id}
use Rattle.edge_map.specs.declared.edge.Edge.{Edge}
use Rattle.edge_map.specs.declared.edge.Edge.TheVariants.{Key, Node as ToRow}
use Rattle.edge_map.specs.Edges.{Edges}
use Rattle.node_table.specs.Table.{Row}
use Rattle.trie_node.specs.declared.node.Node.{Node}
use Rattle.trie_node.specs.declared.node.Node.TheVariants.{Single, Full}
use Rattle.trie_node.specs.Sets.{key_set_of, map_at, tuple_mix, set_hash, hash_of_node, size_of}
use Rattle.trie_node.specs.Forms.{IsKeyNode}
use Rattle.trie_context.specs.declared.tables.Tables.{Tables}
use Rattle.trie_context.specs.Rows.{row_of, row_set, set_of}
use Rattle.trie_context.specs.Kept.{AreKept}
use Rattle.trie_context.specs.FitEdges.{set_at}
use Rattle.trie_context.specs.EdgeLaws.{filled_there}
use Rattle.trie_context.specs.RowLaws.{row_there}
use Rattle.trie_change.specs.Rooms.{FitsSome, AreKeys}

-- the hash of no key, and of one
pub hash_none : (mixed : ℕ → ℕ → ℕ → ℕ → ℕ) → 0 ≡ set_hash mixed 1 (empty nat_cmp)
hash_none mixed = sym (xor_over-empty (lists_total total) (slice_cmp-IsAntisymmetric exact) (tuple_mix mixed 1))

pub hash_one : (mixed : ℕ → ℕ → ℕ → ℕ → ℕ) (x : Id) → bit_xor 0 (tuple_mix mixed 1 (x.0 ∷ [])) ≡ set_hash mixed 1 (single nat_cmp (x.0 ∷ []))
hash_one mixed x =
    let none = set.contains-empty (slice_cmp nat_cmp) (x.0 ∷ []) in
    xor_comm 0 (tuple_mix mixed 1 (x.0 ∷ []))
    ∙ ap (bit_xor (tuple_mix mixed 1 (x.0 ∷ []))) (hash_none mixed)
    ∙ sym (xor_over-insert (lists_total total) (slice_cmp-IsAntisymmetric exact) (empty nat_cmp) (tuple_mix mixed 1) (x.0 ∷ []) none)

pub nil_here : has (single nat_cmp []) [] ≡ true
nil_here = has-single total exact [] [] ∙ tied-itself (lists_total total) []

-- the row of a key set
pub record IsKeyRow (mixed : ℕ → ℕ → ℕ → ℕ → ℕ) (t : Tables) (n : ℕ) : Type 0 where
  pub row : Row Node
  pub there : row_of t 1 n ≡ Some row
  pub formed : IsKeyNode (set_hash mixed 1) row.node
  pub stands : set_of t 1 n ≡ key_set_of row.node

pub key_row : (mixed : ℕ → ℕ → ℕ → ℕ → ℕ) (t : Tables) → AreKept mixed t → (n : ℕ) → 2 ≤ set.len (set_of t 1 n) → IsKeyRow mixed t n
key_row mixed t kept n large =
    let r = row_there (row_of t 1 n) (filled_there t 1 n (omega arith)) in
    record { row = r.0; there = r.1; formed = (kept 0).formed n r.0 r.1; stands = ap (row_set key_set_of) r.1 }

module _ (s h : ℕ) (a b c : Edges) (hash : IdSet → ℕ) (formed : IsKeyNode hash (Full s h a b c)) where
  keys_there : (k : ℕ) (o : Option Edge) → map.get a k ≡ o → o ≡ cond (has_under (λ _. single nat_cmp []) o []) (Some (Key (record { 0 = k }))) None
  keys_there k None is = refl
  keys_there k (Some e) is = ap Some (formed.keys k e is) ∙ ap (λ t. cond t (Some (Key (record { 0 = k }))) None) (sym nil_here)

  -- the keys of a node of depth one
  pub keys_node : AreKeys (key_set_of (Full s h a b c)) a
  keys_node k = keys_there k (map.get a k) refl ∙ ap (λ t. cond t (Some (Key (record { 0 = k }))) None) (sym (has-union_over total exact a (λ _. single nat_cmp []) k []))

under_nil : (o : Option Edge) (u : List ℕ) → has_under (λ _. single nat_cmp []) o u ≡ true → u ≡ []
under_nil None u is = absurd (let f : ⊥ = cc in f)
under_nil (Some e) u is = tied-is (slice_cmp-IsAntisymmetric exact) u [] (sym (has-single total exact [] u) ∙ is)

depth_union : (m : Edges) → HasDepth 1 (union_over m (λ _. single nat_cmp []))
depth_union m [] there = absurd (let f : false ≡ true = sym (has-union_over_nil total exact m (λ _. single nat_cmp [])) ∙ there in let g : ⊥ = cc in g)
depth_union m (k ∷ u) there = ap (λ v. length (k ∷ v)) (under_nil (map.get m k) u (sym (has-union_over total exact m (λ _. single nat_cmp []) k u) ∙ there))

depth_node : (hash : IdSet → ℕ) (node : Node) → IsKeyNode hash node → HasDepth 1 (key_set_of node)
depth_node hash (Single p) formed = absurd formed
depth_node hash (Full s h a b c) formed = depth_union a

-- each tuple of what an edge into depth one stands for is one key
pub depth_keys : (mixed : ℕ → ℕ → ℕ → ℕ → ℕ) (t : Tables) → AreKept mixed t → (edge : Option Edge) → FitsSome t 1 edge → HasDepth 1 (set_at t 1 edge)
depth_keys mixed t kept None fits u there = absurd (let f : false ≡ true = sym (set.contains-empty (slice_cmp nat_cmp) u) ∙ there in let g : ⊥ = cc in g)
depth_keys mixed t kept (Some (Key x)) fits u there = ap length (tied-is (slice_cmp-IsAntisymmetric exact) u (x.0 ∷ []) (sym (has-single total exact (x.0 ∷ []) u) ∙ there))
depth_keys mixed t kept (Some (ToRow n)) fits u there = let r = key_row mixed t kept n fits in depth_node (set_hash mixed 1) r.row.node r.formed u (ap (λ S. has S u) (sym r.stands) ∙ there)

-- ---- the row that an edge leads to, as it is read

module _ (mixed : ℕ → ℕ → ℕ → ℕ → ℕ) (t : Tables) (kept : AreKept mixed t) (n : ℕ) (large : 2 ≤ set.len (set_of t 1 n)) (node : Node) (read : IfSome (row_of t 1 n) (λ row. row.node ≡ node)) where
  node_is : (key_row mixed t kept n large).row.node ≡ node
  node_is = let there : row_of t 1 n ≡ Some (key_row mixed t kept n large).row = (key_row mixed t kept n large).there in subst (λ o. IfSome o (λ row. row.node ≡ node)) there read

  read_formed : IsKeyNode (set_hash mixed 1) node
  read_formed = subst (IsKeyNode (set_hash mixed 1)) node_is (key_row mixed t kept n large).formed

  read_stands : set_of t 1 n ≡ key_set_of node
  read_stands = (key_row mixed t kept n large).stands ∙ ap key_set_of node_is

  formed_keys : (x : Node) → IsKeyNode (set_hash mixed 1) x → (m : Edges) → Some m ≡ map_at x 0 → AreKeys (key_set_of x) m
  formed_keys (Single p) formed m at = absurd formed
  formed_keys (Full s h a b c) formed m at = let is : m ≡ a = cc in subst (AreKeys (key_set_of (Full s h a b c))) (sym is) (keys_node s h a b c (set_hash mixed 1) formed)

  -- its first map has the keys that it stands for
  pub read_keys : (m : Edges) → Some m ≡ map_at node 0 → AreKeys (set_of t 1 n) m
  read_keys m at = subst (λ S. AreKeys S m) (sym read_stands) (formed_keys node read_formed m at)

  no_map : (x : Node) → IsKeyNode (set_hash mixed 1) x → None ≡ map_at x 0 → ⊥
  no_map (Single p) formed at = absurd formed
  no_map (Full s h a b c) formed at = cc

  -- which is there
  pub read_map : None ≡ map_at node 0 → ⊥
  read_map = no_map node read_formed

  formed_hash : (x : Node) → IsKeyNode (set_hash mixed 1) x → hash_of_node mixed x ≡ set_hash mixed 1 (key_set_of x)
  formed_hash (Single p) formed = absurd formed
  formed_hash (Full s h a b c) formed = formed.told.hashed

  -- and it carries the hash of its set
  pub read_hash : hash_of_node mixed node ≡ set_hash mixed 1 (set_of t 1 n)
  read_hash = formed_hash node read_formed ∙ ap (set_hash mixed 1) (sym read_stands)

  formed_size : (x : Node) → IsKeyNode (set_hash mixed 1) x → size_of x ≡ set.len (key_set_of x)
  formed_size (Single p) formed = absurd formed
  formed_size (Full s h a b c) formed = formed.told.sized

  pub read_size : size_of node ≡ set.len (set_of t 1 n)
  read_size = formed_size node read_formed ∙ ap set.len (sym read_stands)
