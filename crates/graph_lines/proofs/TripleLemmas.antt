-- The lines of the triples that a root stands for.
use Rattle.std.specs.Prelude.{◌≡◌, ◌≢◌, ℕ, ◌≤◌, ◌&&◌, true, List, [], ◌∷◌, length, refl, None, Some, IsSome, IfSome}
use Rattle.std.proofs.Common.{sym, ◌∙◌, ap, subst, arith, append-nil}
use Rattle.std.proofs.lemmas.Cmp.{nat_cmp_total as total, lists_total}
use Rattle.std.specs.Cmp.Lexicographic.{slice_cmp}
use Rattle.std.specs.Coded.{le_prop}
use Rattle.std.specs.FinMap as map
use Rattle.std.specs.FinMap.{nat_cmp-IsAntisymmetric as exact}
use Rattle.std.specs.FinSet as set
use Rattle.std.specs.Ordering.{nat_cmp}
use Rattle.hypertrie_model.specs.IdSets.{IdSet}
use Rattle.hypertrie_model.specs.Sets.{has, empty, single}
use Rattle.hypertrie_model.specs.SetLaws.{and_both, tied-itself, has-single, len-single}
use Rattle.hypertrie_model.specs.Unions.{union_over, has_under}
use Rattle.hypertrie_model.specs.UnionLaws.{has-union_over}
use Rattle.trie_depth.specs.declared.id.Id.{Id}
use Rattle.trie_depth.specs.declared.id.Trip.{Trip}
use Rattle.trie_depth.specs.Tuples.{pair_tuple, trip_tuple}
use Rattle.edge_map.specs.declared.edge.Edge.{Edge}
use Rattle.edge_map.specs.declared.edge.Edge.TheVariants.{Key, Node as ToRow}
use Rattle.edge_map.specs.Edges.{Edges}
use Rattle.trie_node.specs.declared.node.Node.{Node}
use Rattle.trie_node.specs.declared.node.Node.TheVariants.{Single, Full}
use Rattle.trie_node.specs.Sets.{edge_set, pair_set_of, set_over, map_at}
use Rattle.trie_context.specs.declared.tables.Tables.{Tables}
use Rattle.trie_context.specs.declared.root.Root.{Root}
use Rattle.trie_context.specs.declared.root.Root.TheVariants.{Empty}
use Rattle.trie_context.specs.Rows.{row_of, row_set, node_set, set_of, LeadsToRow}
use Rattle.trie_context.specs.RowLaws.{row_there}
use Rattle.trie_context.specs.Roots.{root_set}
use Rattle.trie_context.specs.Kept.{IsNode, AreKept}
use Rattle.term_dict.specs.Dict.{Terms}
use Rattle.rdf_model.specs.Terms.{Text}
use Rattle.graph_image.specs.Images.{AreKnown}
use Rattle.graph_view.specs.Read.{has_id, AreRead}
use Rattle.graph_view.specs.ReadLaws.{kept_known, known_ids}
use Rattle.graph_lines.specs.Walks.{AddsTexts}
use Rattle.graph_lines.proofs.MemberLemmas.{single_some}

-- a graph without a triple has no line
pub added_none : (text : List ℕ → Text) (t : Tables) (root : Root) → root ≡ Empty → (old : List Text) → AddsTexts text (root_set t root) old old
added_none text t root is old =
    subst (λ r. AddsTexts text (root_set t r) old old) (sym is) ([], record { all = refl; once = sym (set.len-empty (slice_cmp nat_cmp)) }, sym (append-nil old))

-- the Ids of a graph of one triple
pub trip_known : (terms : Terms) (e : Trip) → AreKnown terms (single nat_cmp (trip_tuple e)) → (has_id terms e.0.0 ≡ true) × (has_id terms e.1.0 ≡ true) × (has_id terms e.2.0 ≡ true)
trip_known terms e known =
    let t = trip_tuple e in
    let all = known_ids terms (single nat_cmp t) known t (has-single total exact t t ∙ tied-itself (lists_total total) t) in
    let first = and_both (has_id terms e.0.0) (has_id terms e.1.0 && (has_id terms e.2.0 && true)) all in
    let second = and_both (has_id terms e.1.0) (has_id terms e.2.0 && true) first.1 in
    (first.0, second.0, (and_both (has_id terms e.2.0) true second.1).0)

-- the set of a node is that of its first map
pub set_of_map : (low : ℕ → IdSet) (n : Node) (m : Edges) → map_at n 0 ≡ Some m → set_over low n ≡ union_over m (edge_set low)
set_of_map low (Single p) m is = absurd (cc)
set_of_map low (Full s h a b c) m is = ap (λ (o : Edges). union_over o (edge_set low)) (let e : a ≡ m = cc in e)

module _ (mixed : ℕ → ℕ → ℕ → ℕ → ℕ) (t : Tables) (kept : AreKept mixed t) where
  triples_kept : (r : ℕ) → IsSome (row_of t 3 r) → (n : Node) → IfSome (row_of t 3 r) (λ row. row.node ≡ n) → map_at n 0 ≡ None → ⊥
  triples_kept r there n is none =
      let row = row_there (row_of t 3 r) there in
      let node : row.0.node ≡ n = let h : IfSome (Some row.0) (λ row. row.node ≡ n) = subst (λ o. IfSome o (λ row. row.node ≡ n)) row.1 is in h in
      by n (subst (IsNode mixed 3 (set_of t 2)) node ((kept 2).formed r row.0 row.1)) none where
        by : (n : Node) → IsNode mixed 3 (set_of t 2) n → map_at n 0 ≡ None → ⊥
        by (Single p) f e = f
        by (Full s h a b c) f e = cc

  pairs_kept : (r : ℕ) → IsSome (row_of t 2 r) → 1 ≤ set.len (set_of t 2 r)
  pairs_kept r there =
      let row = row_there (row_of t 2 r) there in
      subst (λ o. 1 ≤ set.len (row_set (node_set 2 (set_of t 1)) o)) (sym row.1) (by row.0.node ((kept 1).formed r row.0 row.1)) where
        by : (n : Node) → IsNode mixed 2 (set_of t 1) n → 1 ≤ set.len (pair_set_of (set_of t 1) n)
        by (Single p) f = omega (arith, len-single total exact (pair_tuple p))
        by (Full s h a b c) f = omega (arith, f.told.large)

module _ (t : Tables) (terms : Terms) (read : ∥ AreRead t terms ∥₁) where
  -- a row of depth three has a map of subjects
  pub triples_there : (r : ℕ) → IsSome (row_of t 3 r) → (n : Node) → IfSome (row_of t 3 r) (λ row. row.node ≡ n) → map_at n 0 ≡ None → ⊥
  triples_there r there n is none = let never : IsProp ⊥ = hlevel in kept_known t terms read ⊥ never (λ mixed kept. triples_kept mixed t kept r there n is none)

  some_pair : (r : ℕ) → IsSome (row_of t 2 r) → 1 ≤ set.len (set_of t 2 r)
  some_pair r there = kept_known t terms read (1 ≤ set.len (set_of t 2 r)) le_prop (λ mixed kept. pairs_kept mixed t kept r there)

  -- a subject's edge stands for some pair
  pub subject_some : (e : Edge) → LeadsToRow t 2 e → edge_set (set_of t 2) e ≢ empty nat_cmp
  subject_some (Key x) there none = single_some (x.0 ∷ []) none
  subject_some (ToRow r) there none = let n = ap set.len none ∙ set.len-empty (slice_cmp nat_cmp) in omega (arith, some_pair r there, n)

module _ (terms : Terms) (m : Edges) (low : ℕ → IdSet) (known : AreKnown terms (union_over m (edge_set low))) (k : ℕ) (e : Edge) (at : map.get m k ≡ Some e) where
  -- behind a subject stand two Ids
  pub behind_subject : (u : List ℕ) → has (edge_set low e) u ≡ true → length u ≡ 2
  behind_subject u there =
      let whole = known (k ∷ u) (has-union_over total exact m (edge_set low) k u ∙ ap (λ o. has_under (edge_set low) o u) at ∙ there) in
      let three : length (k ∷ u) ≡ 3 = ap length whole.is in
      omega (arith, three)

  -- so its edge is no key
  pub no_key : (x : Id) → e ≡ Key x → ⊥
  no_key x is =
      let one = behind_subject (x.0 ∷ []) (ap (λ f. has (edge_set low f) (x.0 ∷ [])) is ∙ has-single total exact (x.0 ∷ []) (x.0 ∷ []) ∙ tied-itself (lists_total total) (x.0 ∷ [])) in
      omega (arith, one)
