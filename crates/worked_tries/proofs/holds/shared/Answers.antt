use Rattle.std.proofs.Common.{◌≡◌, ◌+◌, ℕ, arith, ap, sym, subst, ◌∙◌, Some, IsSome}
use Rattle.std.specs.FinMap as map
use Rattle.trie_depth.specs.declared.id.Id.{Id}
use Rattle.edge_map.specs.declared.edge.Edge.TheVariants.{Node as ToRow}
use Rattle.trie_node.specs.declared.node.Node.{Node}
use Rattle.trie_node.specs.declared.node.Node.TheVariants.{Full}
use Rattle.trie_node.specs.Sets.{set_hash, edges_of}
use Rattle.trie_node.specs.Forms.{IsKeyNode, IsPairNode}
use Rattle.trie_context.specs.declared.tables.Tables.{Tables}
use Rattle.trie_context.specs.Rows.{no_tables, row_of, node_of, set_of}
use Rattle.trie_context.specs.Holds.{holds_of, one_at, at_depth, nothing, HasRoom, CountsRiseBy, RowsStay}
use Rattle.trie_context.specs.Kept.{AreMoved}
use Rattle.trie_context.specs.MoveLaws.{node_stays, node_there, one_here}
use Rattle.worked_tries.proofs.KeysAndPairs.{zero_mix, two, three, rise, key_node, key_node_form, back_map, pair_node, pair_node_form}
use Rattle.worked_tries.proofs.HoldSteps.{no_hold, AreFew, no_rows_few, few_more, few_room, keys_set, key_edges, pair_edges, put_keys, held_again, put_pairs, given_pairs, let_go}
use Rattle.worked_tries.proofs.holds.shared.Goals as goal

abbrev zero_id : Id
zero_id = record { 0 = 0 }

abbrev one_id : Id
one_id = record { 0 = 1 }

-- the tables after each step of the example
pub record Begun (t t1 : Tables) (k : ℕ) (keys : Node) : Type 0 where
  pub empty : t ≡ no_tables
  pub is : keys ≡ key_node two three
  pub there : node_of t1 1 k ≡ Some keys
  pub moved : AreMoved zero_mix t t1 (at_depth 1 (one_at k)) (at_depth 0 (edges_of keys))
  pub counts : CountsRiseBy t t1 (at_depth 1 (one_at k))

module _ (t t1 : Tables) (k : ℕ) (keys : Node) (s : Begun t t1 k keys) where
  begun_holds : (r : ℕ) → (holds_of t1 1 r ≡ one_at k r) × (holds_of t1 2 r ≡ 0)
  begun_holds r =
      let h = put_keys t t1 k (edges_of keys) s.moved r in
      let z = ap (λ u. holds_of u 1 r) s.empty ∙ no_hold 1 r in
      let y = ap (λ u. holds_of u 2 r) s.empty ∙ no_hold 2 r in
      (omega (arith, h.0, z), omega (arith, h.1, y))

  begun_few : AreFew t1 1
  begun_few = few_more t t1 1 k 0 (subst (λ u. AreFew u 0) (sym s.empty) no_rows_few) s.counts

  begun_node : node_of t1 1 k ≡ Some (key_node two three)
  begun_node = s.there ∙ ap Some s.is

  module _ (t2 : Tables) (moved : AreMoved zero_mix t1 t2 (at_depth 1 (one_at k)) nothing) (counts : CountsRiseBy t1 t2 (at_depth 1 (one_at k))) (stay : RowsStay t1 t2) where
    again_holds : (r : ℕ) → (holds_of t2 1 r ≡ one_at k r + one_at k r) × (holds_of t2 2 r ≡ 0)
    again_holds r = let h = held_again t1 t2 k moved r in let b = begun_holds r in (omega (arith, h.0, b.0), omega (arith, h.1, b.1))

    again_few : AreFew t2 2
    again_few = few_more t1 t2 1 k 1 begun_few counts

    again_node : node_of t2 1 k ≡ Some (key_node two three)
    again_node = node_stays t1 t2 stay 1 k (key_node two three) begun_node

    module _ (t3 : Tables) (m : ℕ) (first : Node) (is : first ≡ pair_node two three one_id k) (moved3 : AreMoved zero_mix t2 t3 (at_depth 2 (one_at m)) (at_depth 1 (edges_of first))) (counts3 : CountsRiseBy t2 t3 (at_depth 2 (one_at m))) (stay3 : RowsStay t2 t3) where
      first_holds : (r : ℕ) → (holds_of t3 1 r ≡ one_at k r) × (holds_of t3 2 r ≡ one_at m r)
      first_holds r =
          let h = put_pairs t2 t3 m (edges_of first) moved3 r in
          let b = again_holds r in
          let e = ap (λ n. edges_of n r) is ∙ pair_edges two three rise one_id k r in
          (omega (arith, h.0, b.0, e), omega (arith, h.1, b.1))

      first_few : AreFew t3 3
      first_few = few_more t2 t3 2 m 2 again_few counts3

      first_node : node_of t3 1 k ≡ Some (key_node two three)
      first_node = node_stays t2 t3 stay3 1 k (key_node two three) again_node

pub intern-requires-clause-form : goal.intern-requires-clause-form
intern-requires-clause-form g c = subst (IsKeyNode (set_hash zero_mix 1)) (sym c.in_ok-two_keys.ensures) (key_node_form two three rise)

pub intern-requires-clause-held : goal.intern-requires-clause-held
intern-requires-clause-held g c r = let e = ap (λ n. edges_of n r) c.in_ok-two_keys.ensures ∙ key_edges two three rise r in omega arith

pub intern-requires-clause-room : goal.intern-requires-clause-room
intern-requires-clause-room g c = subst HasRoom (sym c.new-context.ensures) (few_room no_tables 0 (omega arith) no_rows_few)

pub retain-again-requires-clause-held : goal.retain-again-requires-clause-held
retain-again-requires-clause-held g c =
    let k = c.in_ok-keys.keys in
    let b = begun_holds c.new-context.result c.intern.new.self k c.in_ok-two_keys.field-0 (record { empty = c.new-context.ensures; is = c.in_ok-two_keys.ensures; there = c.in_ok-keys.ensures.there; moved = c.in_ok-keys.ensures.moved; counts = c.in_ok-keys.ensures.counts }) k in
    omega (arith, b.0, one_here k)

pub retain-again-requires-clause-room : goal.retain-again-requires-clause-room
retain-again-requires-clause-room g c = few_room c.intern.new.self 1 (omega arith) (begun_few c.new-context.result c.intern.new.self c.in_ok-keys.keys c.in_ok-two_keys.field-0 (record { empty = c.new-context.ensures; is = c.in_ok-two_keys.ensures; there = c.in_ok-keys.ensures.there; moved = c.in_ok-keys.ensures.moved; counts = c.in_ok-keys.ensures.counts }))

pub intern-requires-2-clause-form : goal.intern-requires-2-clause-form
intern-requires-2-clause-form g c =
    let k = c.in_ok-keys.keys in
    let t2 = c.retain-again.new.self in
    let node = again_node c.new-context.result c.intern.new.self k c.in_ok-two_keys.field-0 (record { empty = c.new-context.ensures; is = c.in_ok-two_keys.ensures; there = c.in_ok-keys.ensures.there; moved = c.in_ok-keys.ensures.moved; counts = c.in_ok-keys.ensures.counts }) t2 c.retain-again.ensures.moved c.retain-again.ensures.counts c.retain-again.ensures.stay in
    subst (IsPairNode (set_hash zero_mix 2) (set_of t2 1)) (sym (c.in_ok-by_subject.ensures ∙ ap (λ e. Full 2 0 (map.insert map.empty 1 e) (back_map two three one_id) map.empty) c.into_edge-keys.ensures)) (pair_node_form two three rise one_id k (set_of t2 1) (keys_set t2 k (key_node two three) node))

pub intern-requires-2-clause-held : goal.intern-requires-2-clause-held
intern-requires-2-clause-held g c r =
    let k = c.in_ok-keys.keys in
    let h = again_holds c.new-context.result c.intern.new.self k c.in_ok-two_keys.field-0 (record { empty = c.new-context.ensures; is = c.in_ok-two_keys.ensures; there = c.in_ok-keys.ensures.there; moved = c.in_ok-keys.ensures.moved; counts = c.in_ok-keys.ensures.counts }) c.retain-again.new.self c.retain-again.ensures.moved c.retain-again.ensures.counts c.retain-again.ensures.stay r in
    let is : c.in_ok-by_subject.by_subject ≡ pair_node two three one_id k = c.in_ok-by_subject.ensures ∙ ap (λ e. Full 2 0 (map.insert map.empty 1 e) (back_map two three one_id) map.empty) c.into_edge-keys.ensures in
    let e = ap (λ n. edges_of n r) is ∙ pair_edges two three rise one_id k r in
    omega (arith, h.0, e)

pub intern-requires-2-clause-room : goal.intern-requires-2-clause-room
intern-requires-2-clause-room g c = few_room c.retain-again.new.self 2 (omega arith) (again_few c.new-context.result c.intern.new.self c.in_ok-keys.keys c.in_ok-two_keys.field-0 (record { empty = c.new-context.ensures; is = c.in_ok-two_keys.ensures; there = c.in_ok-keys.ensures.there; moved = c.in_ok-keys.ensures.moved; counts = c.in_ok-keys.ensures.counts }) c.retain-again.new.self c.retain-again.ensures.moved c.retain-again.ensures.counts c.retain-again.ensures.stay)

pub intern-requires-3-clause-form : goal.intern-requires-3-clause-form
intern-requires-3-clause-form g c =
    let k = c.in_ok-keys.keys in
    let t3 = c.intern-2.new.self in
    let node = first_node c.new-context.result c.intern.new.self k c.in_ok-two_keys.field-0 (record { empty = c.new-context.ensures; is = c.in_ok-two_keys.ensures; there = c.in_ok-keys.ensures.there; moved = c.in_ok-keys.ensures.moved; counts = c.in_ok-keys.ensures.counts }) c.retain-again.new.self c.retain-again.ensures.moved c.retain-again.ensures.counts c.retain-again.ensures.stay t3 c.in_ok-one.one c.in_ok-by_subject.by_subject (c.in_ok-by_subject.ensures ∙ ap (λ e. Full 2 0 (map.insert map.empty 1 e) (back_map two three one_id) map.empty) c.into_edge-keys.ensures) c.in_ok-one.ensures.moved c.in_ok-one.ensures.counts c.in_ok-one.ensures.stay in
    subst (IsPairNode (set_hash zero_mix 2) (set_of t3 1)) (sym (c.in_ok-by_predicate.ensures ∙ ap (λ e. Full 2 0 (map.insert map.empty 0 e) (back_map two three zero_id) map.empty) (c.into_edge-again.ensures ∙ ap ToRow c.retain-again.ensures.same))) (pair_node_form two three rise zero_id k (set_of t3 1) (keys_set t3 k (key_node two three) node))

pub intern-requires-3-clause-held : goal.intern-requires-3-clause-held
intern-requires-3-clause-held g c r =
    let k = c.in_ok-keys.keys in
    let h = first_holds c.new-context.result c.intern.new.self k c.in_ok-two_keys.field-0 (record { empty = c.new-context.ensures; is = c.in_ok-two_keys.ensures; there = c.in_ok-keys.ensures.there; moved = c.in_ok-keys.ensures.moved; counts = c.in_ok-keys.ensures.counts }) c.retain-again.new.self c.retain-again.ensures.moved c.retain-again.ensures.counts c.retain-again.ensures.stay c.intern-2.new.self c.in_ok-one.one c.in_ok-by_subject.by_subject (c.in_ok-by_subject.ensures ∙ ap (λ e. Full 2 0 (map.insert map.empty 1 e) (back_map two three one_id) map.empty) c.into_edge-keys.ensures) c.in_ok-one.ensures.moved c.in_ok-one.ensures.counts c.in_ok-one.ensures.stay r in
    let is : c.in_ok-by_predicate.by_predicate ≡ pair_node two three zero_id k = c.in_ok-by_predicate.ensures ∙ ap (λ e. Full 2 0 (map.insert map.empty 0 e) (back_map two three zero_id) map.empty) (c.into_edge-again.ensures ∙ ap ToRow c.retain-again.ensures.same) in
    let e = ap (λ n. edges_of n r) is ∙ pair_edges two three rise zero_id k r in
    omega (arith, h.0, e)

pub intern-requires-3-clause-room : goal.intern-requires-3-clause-room
intern-requires-3-clause-room g c = few_room c.intern-2.new.self 3 (omega arith) (first_few c.new-context.result c.intern.new.self c.in_ok-keys.keys c.in_ok-two_keys.field-0 (record { empty = c.new-context.ensures; is = c.in_ok-two_keys.ensures; there = c.in_ok-keys.ensures.there; moved = c.in_ok-keys.ensures.moved; counts = c.in_ok-keys.ensures.counts }) c.retain-again.new.self c.retain-again.ensures.moved c.retain-again.ensures.counts c.retain-again.ensures.stay c.intern-2.new.self c.in_ok-one.one c.in_ok-by_subject.by_subject (c.in_ok-by_subject.ensures ∙ ap (λ e. Full 2 0 (map.insert map.empty 1 e) (back_map two three one_id) map.empty) c.into_edge-keys.ensures) c.in_ok-one.ensures.moved c.in_ok-one.ensures.counts c.in_ok-one.ensures.stay)

pub release-requires : goal.release-requires
release-requires g c =
    let m = c.in_ok-one.one in
    let h = first_holds c.new-context.result c.intern.new.self c.in_ok-keys.keys c.in_ok-two_keys.field-0 (record { empty = c.new-context.ensures; is = c.in_ok-two_keys.ensures; there = c.in_ok-keys.ensures.there; moved = c.in_ok-keys.ensures.moved; counts = c.in_ok-keys.ensures.counts }) c.retain-again.new.self c.retain-again.ensures.moved c.retain-again.ensures.counts c.retain-again.ensures.stay c.intern-2.new.self c.in_ok-one.one c.in_ok-by_subject.by_subject (c.in_ok-by_subject.ensures ∙ ap (λ e. Full 2 0 (map.insert map.empty 1 e) (back_map two three one_id) map.empty) c.into_edge-keys.ensures) c.in_ok-one.ensures.moved c.in_ok-one.ensures.counts c.in_ok-one.ensures.stay m in
    let given = given_pairs c.intern-2.new.self c.intern-3.new.self m (edges_of c.in_ok-by_predicate.by_predicate) c.in-Err.ensures.given m in
    record { held = omega (arith, h.1, given, one_here m) }

pub count-count-requires : goal.count-count-requires
count-count-requires g c =
    let k = c.in_ok-keys.keys in
    let node = first_node c.new-context.result c.intern.new.self k c.in_ok-two_keys.field-0 (record { empty = c.new-context.ensures; is = c.in_ok-two_keys.ensures; there = c.in_ok-keys.ensures.there; moved = c.in_ok-keys.ensures.moved; counts = c.in_ok-keys.ensures.counts }) c.retain-again.new.self c.retain-again.ensures.moved c.retain-again.ensures.counts c.retain-again.ensures.stay c.intern-2.new.self c.in_ok-one.one c.in_ok-by_subject.by_subject (c.in_ok-by_subject.ensures ∙ ap (λ e. Full 2 0 (map.insert map.empty 1 e) (back_map two three one_id) map.empty) c.into_edge-keys.ensures) c.in_ok-one.ensures.moved c.in_ok-one.ensures.counts c.in_ok-one.ensures.stay in
    let t4 = c.intern-3.new.self in
    let there = node_there t4 1 k (key_node two three) (node_stays c.intern-2.new.self t4 c.in-Ok.ensures.stay 1 k (key_node two three) node) in
    subst (λ q. IsSome (row_of c.tables.result.now 1 q)) (sym c.row-row.ensures) (subst (λ t. IsSome (row_of t 1 k)) (sym c.tables.ensures.same) there)

pub release-requires-2 : goal.release-requires-2
release-requires-2 g c =
    let m = c.in_ok-one.one in
    let h = first_holds c.new-context.result c.intern.new.self c.in_ok-keys.keys c.in_ok-two_keys.field-0 (record { empty = c.new-context.ensures; is = c.in_ok-two_keys.ensures; there = c.in_ok-keys.ensures.there; moved = c.in_ok-keys.ensures.moved; counts = c.in_ok-keys.ensures.counts }) c.retain-again.new.self c.retain-again.ensures.moved c.retain-again.ensures.counts c.retain-again.ensures.stay c.intern-2.new.self c.in_ok-one.one c.in_ok-by_subject.by_subject (c.in_ok-by_subject.ensures ∙ ap (λ e. Full 2 0 (map.insert map.empty 1 e) (back_map two three one_id) map.empty) c.into_edge-keys.ensures) c.in_ok-one.ensures.moved c.in_ok-one.ensures.counts c.in_ok-one.ensures.stay m in
    let more = put_pairs c.intern-2.new.self c.intern-3.new.self c.in-Ok.two (edges_of c.in_ok-by_predicate.by_predicate) c.in-Ok.ensures.moved m in
    record { held = omega (arith, h.1, more.1, one_here m) }

pub release-requires-3 : goal.release-requires-3
release-requires-3 g c =
    let n = c.in-Ok.two in
    let h = first_holds c.new-context.result c.intern.new.self c.in_ok-keys.keys c.in_ok-two_keys.field-0 (record { empty = c.new-context.ensures; is = c.in_ok-two_keys.ensures; there = c.in_ok-keys.ensures.there; moved = c.in_ok-keys.ensures.moved; counts = c.in_ok-keys.ensures.counts }) c.retain-again.new.self c.retain-again.ensures.moved c.retain-again.ensures.counts c.retain-again.ensures.stay c.intern-2.new.self c.in_ok-one.one c.in_ok-by_subject.by_subject (c.in_ok-by_subject.ensures ∙ ap (λ e. Full 2 0 (map.insert map.empty 1 e) (back_map two three one_id) map.empty) c.into_edge-keys.ensures) c.in_ok-one.ensures.moved c.in_ok-one.ensures.counts c.in_ok-one.ensures.stay n in
    let more = put_pairs c.intern-2.new.self c.intern-3.new.self n (edges_of c.in_ok-by_predicate.by_predicate) c.in-Ok.ensures.moved n in
    let gone = let_go c.intern-3.new.self c.release-2.new.self c.in_ok-one.one c.release-2.ensures.moved n in
    record { held = omega (arith, h.1, more.1, gone, one_here n) }
