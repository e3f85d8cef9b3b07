use Rattle.std.proofs.Common.{◌≡◌, ◌≤◌, ◌+◌, ℕ, arith, ap, sym, subst, ◌∙◌, Some, IsSome}
use Rattle.std.specs.Ordering.{nat_cmp}
use Rattle.std.specs.Cmp.{nat_cmp_total as total}
use Rattle.std.specs.FinMap as map
use Rattle.std.specs.FinMap.{nat_cmp-IsAntisymmetric as exact}
use Rattle.hypertrie_model.specs.FoldLaws.{sum_over-insert, sum_over-empty}
use Rattle.edge_map.specs.declared.edge.Edge.{Edge}
use Rattle.edge_map.specs.declared.edge.Edge.TheVariants.{Node as ToRow}
use Rattle.edge_map.specs.Edges.{Edges}
use Rattle.trie_node.specs.Sets.{set_hash, leads, edges_in, edges_of}
use Rattle.trie_node.specs.Forms.{IsKeyNode}
use Rattle.trie_context.specs.declared.tables.Tables.{Tables}
use Rattle.trie_context.specs.Rows.{no_tables, row_of, LeadsToRow}
use Rattle.trie_context.specs.Holds.{holds_of, one_at, at_depth, nothing, HasRoom, HasRoomForMap}
use Rattle.trie_context.specs.Kept.{AreMoved}
use Rattle.trie_context.specs.MoveLaws.{at_here, leads_one, node_there, row_stays_there}
use Rattle.trie_context.specs.NodeLaws.{map_counted}
use Rattle.worked_tries.proofs.KeysAndPairs.{zero_mix, two, three, rise, key_node_form}
use Rattle.worked_tries.proofs.HoldSteps.{AreFew, no_rows_few, few_more, few_room, key_edges, put_keys}
use Rattle.worked_tries.proofs.holds.borrowed.Goals as goal

-- the map has one edge, to the row of the keys
one_edge : (m new : Edges) (e : Edge) (k : ℕ) → new ≡ map.empty → m ≡ map.insert new 1 e → e ≡ ToRow k → (r : ℕ) → edges_in m r ≡ one_at k r
one_edge m new e k empty is to r =
    ap (λ n. edges_in n r) (is ∙ ap (λ n. map.insert n 1 e) empty) ∙ sum_over-insert total exact map.empty (λ _ f. leads f r) 1 e (map.get-empty nat_cmp 1)
    ∙ ap (λ n. leads e r + n) (sum_over-empty total exact (λ _ f. leads f r)) ∙ add_zero (leads e r) ∙ ap (λ f. leads f r) to ∙ leads_one k r where
      add_zero : (n : ℕ) → n + 0 ≡ n
      add_zero n = omega arith

module _ (t t1 : Tables) (k : ℕ) (n : ℕ → ℕ) (made : AreMoved zero_mix t t1 (at_depth 1 (one_at k)) (at_depth 0 n)) (m : Edges) (one : (r : ℕ) → edges_in m r ≡ one_at k r) where
  edge_there : (q : ℕ) (e : Edge) → map.get m q ≡ Some e → LeadsToRow t1 1 e
  edge_there = map_counted t1 1 m (λ r. let h = (put_keys t t1 k n made r).0 in omega (arith, one r, h))

  module _ (t2 : Tables) (more : AreMoved zero_mix t1 t2 (at_depth 1 (edges_in m)) nothing) where
    map_held : (r : ℕ) → edges_in m r ≤ holds_of t2 1 r
    map_held r = omega (arith, more.holds 1 r, at_here 1 (edges_in m) r)

    module _ (t3 : Tables) (less : AreMoved zero_mix t2 t3 nothing (at_depth 1 (edges_in m))) (e : Edge) (to : e ≡ ToRow k) where
      edge_held : (r : ℕ) → leads e r ≤ holds_of t3 1 r
      edge_held r =
          let h = (put_keys t t1 k n made r).0 in
          let leads_is : leads e r ≡ one_at k r = ap (λ f. leads f r) to ∙ leads_one k r in
          omega (arith, more.holds 1 r, less.holds 1 r, h, leads_is)

few_map : (t : Tables) → AreFew t 1 → HasRoomForMap t
few_map t few d r = omega (arith, few d r)

pub intern-requires-clause-form : goal.intern-requires-clause-form
intern-requires-clause-form g c = subst (IsKeyNode (set_hash zero_mix 1)) (sym c.in_ok-two_keys.ensures) (key_node_form two three rise)

pub intern-requires-clause-held : goal.intern-requires-clause-held
intern-requires-clause-held g c r = let e = ap (λ n. edges_of n r) c.in_ok-two_keys.ensures ∙ key_edges two three rise r in omega arith

pub intern-requires-clause-room : goal.intern-requires-clause-room
intern-requires-clause-room g c = subst HasRoom (sym c.new-context.ensures) (few_room no_tables 0 (omega arith) no_rows_few)

pub retain_map-requires-clause-there : goal.retain_map-requires-clause-there
retain_map-requires-clause-there g c =
    let k = c.in_ok-keys.keys in
    let one = one_edge c.in_ok-edges.edges c.new.result c.into_edge-edge.result k c.new.ensures c.in_ok-edges.ensures c.into_edge-edge.ensures in
    edge_there c.new-context.result c.intern.new.self k (edges_of c.in_ok-two_keys.field-0) c.in_ok-keys.ensures.moved c.in_ok-edges.edges one

pub retain_map-requires-clause-room : goal.retain_map-requires-clause-room
retain_map-requires-clause-room g c =
    few_map c.intern.new.self (few_more c.new-context.result c.intern.new.self 1 c.in_ok-keys.keys 0 (subst (λ t. AreFew t 0) (sym c.new-context.ensures) no_rows_few) c.in_ok-keys.ensures.counts)

pub count-count-requires : goal.count-count-requires
count-count-requires g c =
    let k = c.in_ok-keys.keys in
    let t2 = c.retain_map.new.self in
    let there = row_stays_there c.intern.new.self t2 c.retain_map.ensures.stay 1 k (node_there c.intern.new.self 1 k c.in_ok-two_keys.field-0 c.in_ok-keys.ensures.there) in
    subst (λ q. IsSome (row_of c.tables.result.now 1 q)) (sym c.row-row.ensures) (subst (λ t. IsSome (row_of t 1 k)) (sym c.tables.ensures.same) there)

pub release_map-requires : goal.release_map-requires
release_map-requires g c =
    let k = c.in_ok-keys.keys in
    let one = one_edge c.in_ok-edges.edges c.new.result c.into_edge-edge.result k c.new.ensures c.in_ok-edges.ensures c.into_edge-edge.ensures in
    record { held = map_held c.new-context.result c.intern.new.self k (edges_of c.in_ok-two_keys.field-0) c.in_ok-keys.ensures.moved c.in_ok-edges.edges one c.retain_map.new.self c.retain_map.ensures.moved }

pub release_edge-requires : goal.release_edge-requires
release_edge-requires g c =
    let k = c.in_ok-keys.keys in
    let one = one_edge c.in_ok-edges.edges c.new.result c.into_edge-edge.result k c.new.ensures c.in_ok-edges.ensures c.into_edge-edge.ensures in
    record { held = edge_held c.new-context.result c.intern.new.self k (edges_of c.in_ok-two_keys.field-0) c.in_ok-keys.ensures.moved c.in_ok-edges.edges one c.retain_map.new.self c.retain_map.ensures.moved c.release_map.new.self c.release_map.ensures.moved c.into_edge-edge.result c.into_edge-edge.ensures }
