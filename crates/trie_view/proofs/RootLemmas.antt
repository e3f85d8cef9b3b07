-- What is known of the place of a whole graph.
use Rattle.std.specs.Prelude.{◌≡◌, ◌≢◌, ℕ, zero, suc, ◌^◌, ◌<◌, ◌≤◌, Bool, true, List, [], ◌∷◌, length, slice_index_or, refl, Option, None, Some, IfSome, IsSome}
use Rattle.std.proofs.Common.{sym, ◌∙◌, ap, subst, arith, Bor}
use Rattle.std.specs.Ordering.{nat_cmp}
use Rattle.std.specs.Cmp.{nat_cmp_total as total}
use Rattle.std.specs.FinMap as map
use Rattle.std.specs.FinMap.{nat_cmp-IsAntisymmetric as exact}
use native.Mathlib.Decide.{dec_lt}
use Rattle.hypertrie_model.specs.IdSets.{IdSet}
use Rattle.hypertrie_model.specs.Sets.{has, empty, single}
use Rattle.hypertrie_model.specs.SetLaws.{tied-itself}
use Rattle.hypertrie_model.specs.Slices.{is_at, slice}
use Rattle.hypertrie_model.specs.SliceLaws.{keys-has, key-slice}
use Rattle.trie_depth.specs.declared.id.Trip.{Trip}
use Rattle.trie_depth.specs.Operands.{IsIdTuple}
use Rattle.trie_depth.specs.Tuples.{trip_tuple}
use Rattle.edge_map.specs.declared.edge.Edge.{Edge}
use Rattle.edge_map.specs.Edges.{Edges}
use Rattle.node_table.specs.Table.{Row}
use Rattle.trie_node.specs.declared.node.Node.{Node}
use Rattle.trie_node.specs.declared.node.Node.TheVariants.{Single, Full}
use Rattle.trie_node.specs.Sets.{set_over}
use Rattle.trie_node.specs.Forms.{IsTripleEdge, StandsFor}
use Rattle.trie_context.specs.declared.root.Root.{Root}
use Rattle.trie_context.specs.declared.root.Root.TheVariants.{Empty, One, Many}
use Rattle.trie_context.specs.declared.tables.Tables.{Tables}
use Rattle.trie_context.specs.Rows.{row_of, row_set, node_set, set_of}
use Rattle.trie_context.specs.Kept.{IsNode, AreKept}
use Rattle.trie_context.specs.RowLaws.{row_there}
use Rattle.trie_context.specs.DepthLaws.{node_deep, set_deep}
use Rattle.trie_view.specs.declared.location.Location.TheVariants.{Triple, Triples}
use Rattle.trie_view.specs.Places.{HasIds, IsSub, IsRootThere, edge_at}
use Rattle.trie_view.specs.EdgesAt.{triples_edge}
use Rattle.trie_view.specs.PlaceLaws.{single_ids}

-- each key of the node is the number of an id
abbrev pub KeysAreIds : Node → Type 0
KeysAreIds n = (i k : ℕ) → 2 ^ 32 ≤ k → edge_at n i k ≡ None

stands_or : (t : List ℕ) (i d : ℕ) → i < length t → is_at nat_cmp i (slice_index_or t i d) t ≡ true
stands_or [] i d lt = absurd (omega arith)
stands_or (x ∷ t) zero d lt = tied-itself total x
stands_or (x ∷ t) (suc i) d lt = stands_or t i d (omega arith)

full_ids : (a b c : Edges) (s h : ℕ) → ((k : ℕ) → 2 ^ 32 ≤ k → map.get a k ≡ None) → ((k : ℕ) → 2 ^ 32 ≤ k → map.get b k ≡ None) → ((k : ℕ) → 2 ^ 32 ≤ k → map.get c k ≡ None) → KeysAreIds (Full s h a b c)
full_ids a b c s h first second third zero k ge = first k ge
full_ids a b c s h first second third (suc zero) k ge = second k ge
full_ids a b c s h first second third (suc (suc i)) k ge = third k ge

pub ids_full : (n : Node) (a b c : Edges) (s h : ℕ) → n ≡ Full s h a b c → ((k : ℕ) → 2 ^ 32 ≤ k → map.get a k ≡ None) → ((k : ℕ) → 2 ^ 32 ≤ k → map.get b k ≡ None) → ((k : ℕ) → 2 ^ 32 ≤ k → map.get c k ≡ None) → KeysAreIds n
ids_full n a b c s h is first second third = subst KeysAreIds (sym is) (full_ids a b c s h first second third)

module _ (t : Tables) (mixed : ℕ → ℕ → ℕ → ℕ → ℕ) (kept : AreKept mixed t) where
  pub triple_known : (e : Trip) → IsIdTuple (trip_tuple e) → ∥ IsSub t (Triple e) ∥₁
  triple_known e ids = ∣ record { mixed = mixed; kept = kept; formed = tt; small = single_ids (trip_tuple e) ids } ∣₁

  node_ids : (n : Node) → IsNode mixed 3 (set_of t 2) n → KeysAreIds n → HasIds (set_over (set_of t 2) n)
  node_ids n formed ids u there i d lt = elim (dec_lt (slice_index_or u i d) (2 ^ 32)) as (λ _. slice_index_or u i d < 2 ^ 32) [
    | yes less ↦ less
    | no more ↦ absurd (some (subst (StandsFor (IsTripleEdge (set_of t 2)) (set_of t 2) (slice nat_cmp H i (slice_index_or u i d))) (ids i (slice_index_or u i d) (omega arith)) (triples_edge mixed (set_of t 2) n formed i (slice_index_or u i d) within)))
  ] where
    H : IdSet
    H = set_over (set_of t 2) n

    within : i < 3
    within = subst (λ z. i < z) (node_deep mixed 2 (set_of t 2) (set_deep mixed t kept 2) n formed u there) lt

    some : slice nat_cmp H i (slice_index_or u i d) ≢ empty nat_cmp
    some = key-slice total exact H i (slice_index_or u i d) (keys-has total exact H i (slice_index_or u i d) u there (stands_or u i d lt))

  module _ (r : ℕ) (there : IsSome (row_of t 3 r)) (n : Bor Node) (at : IfSome (row_of t 3 r) (λ row. row.node ≡ n.now)) where
    found : (row : Row Node) × (row_of t 3 r ≡ Some row) × (row.node ≡ n.now)
    found = let s = row_there (row_of t 3 r) there in (s.0, s.1, by (row_of t 3 r) s.0 s.1 at) where
      by : (o : Option (Row Node)) (row : Row Node) → o ≡ Some row → IfSome o (λ row. row.node ≡ n.now) → row.node ≡ n.now
      by o row is h = let g : IfSome (Some row) (λ row. row.node ≡ n.now) = subst (λ o. IfSome o (λ row. row.node ≡ n.now)) is h in g

    formed_here : IsNode mixed 3 (set_of t 2) n.now
    formed_here = subst (IsNode mixed 3 (set_of t 2)) found.2 ((kept 2).formed r found.0 found.1)

    pub triples_known : KeysAreIds n.now → ∥ IsSub t (Triples n) ∥₁
    triples_known ids = ∣ record { mixed = mixed; kept = kept; formed = formed_here; small = node_ids n.now formed_here ids } ∣₁

    pub triples_set : set_over (set_of t 2) n.now ≡ set_of t 3 r
    triples_set = sym (ap (row_set (node_set 3 (set_of t 2))) found.1 ∙ ap (set_over (set_of t 2)) found.2)

pub root_row : (t : Tables) (root : Root) (held row : ℕ) → root ≡ Many held → row ≡ held → IsRootThere t root → IsSome (row_of t 3 row)
root_row t root held row is same there = subst (λ r. IsSome (row_of t 3 r)) (sym same) (let h : IsRootThere t (Many held) = subst (IsRootThere t) is there in h)
