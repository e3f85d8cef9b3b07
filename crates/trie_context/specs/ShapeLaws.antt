-- Kept tables in which one row of depth three is held once, and nothing else, have exactly the rows of the shape of its set.
use Rattle.std.specs.Prelude.{◌≡◌, ℕ, zero, suc, ◌+◌, ◌≤◌, ◌≢◌, true, false, cond, nat_eq, refl, Option, None, Some}
use Rattle.std.proofs.Common.{sym, ◌∙◌, ap, arith}
use Rattle.std.specs.Ordering.{nat_cmp}
use Rattle.std.specs.Cmp.{nat_cmp_total as total}
use Rattle.std.specs.Cmp.Lexicographic.{slice_cmp}
use Rattle.std.specs.FinMap as map
use Rattle.std.specs.FinMap.{nat_cmp-IsAntisymmetric as exact}
use Rattle.std.specs.FinSet as set
use Rattle.hypertrie_model.specs.IdSets.{IdSet}
use Rattle.hypertrie_model.specs.MapLaws.{by_key, same_maps, get-remove_here, get-remove_other}
use Rattle.hypertrie_model.specs.Folds.{sum_over}
use Rattle.hypertrie_model.specs.FoldLaws.{sum_over-empty, sum_over-remove}
use Rattle.hypertrie_model.specs.Shapes.{times, large_slices, two, count2, one, count1}
use Rattle.hypertrie_model.specs.Members.{sum_over-names}
use Rattle.hypertrie_model.specs.ShapeRows.{IsRowOf, in_shape, shape_in}
use Rattle.hypertrie_model.specs.ShapeLaws.{sets_total, sets_exact, counted-two, has-one, counted-one}
use Rattle.node_table.specs.Table.{Row}
use Rattle.trie_node.specs.declared.node.Node.{Node}
use Rattle.trie_node.specs.Sets.{set_over, edges_of}
use Rattle.trie_context.specs.declared.tables.Tables.{Tables}
use Rattle.trie_context.specs.Rows.{rows_at, row_of, node_set, row_set, set_of}
use Rattle.trie_context.specs.Holds.{count_of, edges_from, one_at}
use Rattle.trie_context.specs.Kept.{IsNode, AreKept}
use Rattle.trie_context.specs.RowLaws.{rows_named, counted}
use Rattle.trie_context.specs.Shape.{OnlyHeld, NothingHeld, HasRow, HasShape}
use Rattle.trie_context.specs.EdgeCounts.{same_number, eq_itself, node_filled, key_node_large, triple_node_large, triple_edges, pair_edges, triple_slice, pair_slice}

row_filled : (stands : Node → IdSet) (o : Option (Row Node)) → 1 ≤ set.len (row_set stands o) → (row : Row Node) × (o ≡ Some row)
row_filled stands None h = absurd (let none = set.len-empty (slice_cmp nat_cmp) in omega arith)
row_filled stands (Some row) h = (row, refl)

module _ (mixed : ℕ → ℕ → ℕ → ℕ → ℕ) (t : Tables) (kept : AreKept mixed t) where
  -- a row with a set of one tuple or more is there
  there : (d r : ℕ) → 1 ≤ set.len (set_of t (suc d) r) → (row : Row Node) × (row_of t (suc d) r ≡ Some row)
  there d r some = row_filled (node_set (suc d) (set_of t d)) (row_of t (suc d) r) some

  stands_for : (d r : ℕ) (row : Row Node) → row_of t (suc d) r ≡ Some row → set_of t (suc d) r ≡ node_set (suc d) (set_of t d) row.node
  stands_for d r row at = ap (row_set (node_set (suc d) (set_of t d))) at

  row_some : (d r : ℕ) (row : Row Node) → row_of t (suc d) r ≡ Some row → 1 ≤ set.len (set_of t (suc d) r)
  row_some d r row at =
      let is = ap set.len (stands_for d r row at) in
      let some = node_filled mixed (suc d) (set_of t d) row.node ((kept d).formed r row at) in
      omega arith

  -- no two rows of a depth have the same set
  pub row_single : (d r s : ℕ) (row other : Row Node) → row_of t d r ≡ Some row → row_of t d s ≡ Some other → set_of t d r ≡ set_of t d s → r ≡ s
  row_single zero r s row other at with_other same = absurd (let f : None ≡ Some row = sym (map.get-empty nat_cmp r) ∙ at in cc)
  row_single (suc d) r s row other at with_other same = rows_named mixed (rows_at t) kept (suc d) r s (row_some d r row at) (row_some d s other with_other) same

  no_row : (d r : ℕ) (row : Row Node) → row_of t (suc (suc (suc (suc d)))) r ≡ Some row → ⊥
  no_row d r row at = let f : None ≡ Some row = sym (map.get-empty nat_cmp r) ∙ at in cc

  module _ (g : ℕ) (held : OnlyHeld t g) where
    edges_above : (r : ℕ) → edges_from (rows_at t 4) r ≡ 0
    edges_above r = sum_over-empty total exact (λ _ row. edges_of row.node r)

    -- the row g is the only one of depth three
    one_graph : (r : ℕ) (row : Row Node) → row_of t 3 r ≡ Some row → (r ≡ g) × (row.count ≡ 1)
    one_graph r row at =
        let live = (kept 2).live r row at in
        let c : count_of (row_of t 3 r) ≡ row.count = ap count_of at in
        let h = held.here r in
        let e = edges_above r in
        let f = counted mixed (rows_at t) kept 3 r in
        elim (nat_eq r g) as (λ b. nat_eq r g ≡ b → (r ≡ g) × (row.count ≡ 1)) [
          | true ↦ λ is. let one : one_at g r ≡ 1 = ap (λ b. cond b 1 0) is in (same_number r g is, omega arith)
          | false ↦ λ is. let none : one_at g r ≡ 0 = ap (λ b. cond b 1 0) is in absurd (omega arith)
        ] refl

    graph_row : (row : Row Node) × (row_of t 3 g ≡ Some row)
    graph_row = by (row_of t 3 g) refl where
      by : (o : Option (Row Node)) → row_of t 3 g ≡ o → (row : Row Node) × (row_of t 3 g ≡ Some row)
      by None e = absurd (let h = held.here g in let c : count_of (row_of t 3 g) ≡ 0 = ap count_of e in let one : one_at g g ≡ 1 = ap (λ b. cond b 1 0) (eq_itself g) in omega arith)
      by (Some row) e = (row, e)

    -- so the edges into depth two are those of its node
    edges_from_graph : (r : ℕ) → edges_from (rows_at t 3) r ≡ edges_of graph_row.0.node r
    edges_from_graph r =
        let e = sum_over-remove total exact (rows_at t 3) (λ _ row. edges_of row.node r) g graph_row.0 graph_row.1 in
        let nothing : map.remove (rows_at t 3) g ≡ map.empty = same_maps total exact _ _ (λ q. by_key total exact (λ _. map.get (map.remove (rows_at t 3) g) q ≡ map.get (map.empty {R = nat_cmp}) q) q g
        (λ is. ap (map.get (map.remove (rows_at t 3) g)) is ∙ get-remove_here total exact (rows_at t 3) g ∙ sym (map.get-empty nat_cmp q))
        (λ ne. get-remove_other total exact (rows_at t 3) g q ne ∙ lone q ne (row_of t 3 q) refl ∙ sym (map.get-empty nat_cmp q))) in
        let rest : sum_over (map.remove (rows_at t 3) g) (λ _ row. edges_of row.node r) ≡ 0 = ap (λ m. sum_over m (λ _ row. edges_of row.node r)) nothing ∙ sum_over-empty total exact (λ _ row. edges_of row.node r) in
        omega arith where
          lone : (q : ℕ) → q ≢ g → (o : Option (Row Node)) → row_of t 3 q ≡ o → row_of t 3 q ≡ None
          lone q ne None e = e
          lone q ne (Some row) e = absurd (ne (one_graph q row e).0)

    abbrev graph : IdSet
    graph = set_of t 3 g

    graph_stands : graph ≡ set_over (set_of t 2) graph_row.0.node
    graph_stands = stands_for 2 g graph_row.0 graph_row.1

    graph_node : IsNode mixed 3 (set_of t 2) graph_row.0.node
    graph_node = (kept 2).formed g graph_row.0 graph_row.1

    graph_large : 2 ≤ set.len graph
    graph_large =
        let is = ap set.len graph_stands in
        let large = triple_node_large mixed (set_of t 2) graph_row.0.node graph_node in
        omega arith

    -- the count of a row of depth two
    exact_two : (r : ℕ) (row : Row Node) → row_of t 2 r ≡ Some row → row.count ≡ count2 nat_cmp graph (set_of t 2 r)
    exact_two r row at =
        let c : count_of (row_of t 2 r) ≡ row.count = ap count_of at in
        let f = counted mixed (rows_at t) kept 2 r in
        let h = (held.below r).0 in
        let e = edges_from_graph r in
        let n = triple_edges mixed (set_of t 2) (rows_named mixed (rows_at t) kept 2) graph_row.0.node graph_node r (row_some 1 r row at) in
        let same : count2 nat_cmp graph (set_of t 2 r) ≡ count2 nat_cmp (set_over (set_of t 2) graph_row.0.node) (set_of t 2 r) = ap (λ G. count2 nat_cmp G (set_of t 2 r)) graph_stands in
        omega arith

    sound_two : (r : ℕ) (row : Row Node) → row_of t 2 r ≡ Some row → set.contains (two nat_cmp graph) (set_of t 2 r) ≡ true
    sound_two r row at = counted-two total exact graph (set_of t 2 r) (let live = (kept 1).live r row at in let n = exact_two r row at in omega arith)

    complete_two : (P : IdSet) → set.contains (two nat_cmp graph) P ≡ true → (r : ℕ) × (row : Row Node) × (row_of t 2 r ≡ Some row) × (set_of t 2 r ≡ P)
    complete_two P e =
        let p = triple_slice mixed (set_of t 2) (rows_named mixed (rows_at t) kept 2) graph_row.0.node graph_node P (ap (λ G. set.contains (two nat_cmp G) P) (sym graph_stands) ∙ e) in
        let row = there 1 p.0 p.1 in
        (p.0, row.0, row.1, p.2)

    row_large : (r : ℕ) (row : Row Node) → row_of t 1 r ≡ Some row → 2 ≤ set.len (set_of t 1 r)
    row_large r row at =
        let is = ap set.len (stands_for 0 r row at) in
        let large = key_node_large mixed (set_of t 0) row.node ((kept 0).formed r row at) in
        omega arith

    -- the count of a row of depth one
    exact_one : (r : ℕ) (row : Row Node) → row_of t 1 r ≡ Some row → row.count ≡ count1 nat_cmp graph (set_of t 1 r)
    unfolding count1
    exact_one r row at =
        let S = set_of t 1 r in
        let c : count_of (row_of t 1 r) ≡ row.count = ap count_of at in
        let f = counted mixed (rows_at t) kept 1 r in
        let h = (held.below r).1 in
        let e = sum_over-names total exact (sets_total total exact) (sets_exact total exact) (set_of t 2) (λ _ row. edges_of row.node r) (λ P. times nat_cmp P 0 S + times nat_cmp P 1 S) (rows_at t 2) (two nat_cmp graph) (record {
          into = sound_two;
          onto = complete_two;
          apart = λ k l v w p q same. row_single 2 k l v w p q same;
          parts = λ k v p. pair_edges mixed (set_of t 1) (rows_named mixed (rows_at t) kept 1) v.node ((kept 1).formed k v p) r (row_large r row at) ∙ ap (λ P. times nat_cmp P 0 S + times nat_cmp P 1 S) (sym (stands_for 1 k v p));
        }) in
        omega arith

    sound_one : (r : ℕ) (row : Row Node) → row_of t 1 r ≡ Some row → set.contains (one nat_cmp graph) (set_of t 1 r) ≡ true
    sound_one r row at = counted-one total exact graph (set_of t 1 r) (row_large r row at) (let live = (kept 0).live r row at in let n = exact_one r row at in omega arith)

    complete_one : (S : IdSet) → set.contains (one nat_cmp graph) S ≡ true → (r : ℕ) × (row : Row Node) × (row_of t 1 r ≡ Some row) × (set_of t 1 r ≡ S)
    complete_one S e =
        let is_one = has-one total exact graph S e in
        let q = complete_two is_one.pairs is_one.among in
        let stands : set_over (set_of t 1) q.1.node ≡ is_one.pairs = sym (stands_for 1 q.0 q.1 q.2) ∙ q.3 in
        let p = pair_slice mixed (set_of t 1) (rows_named mixed (rows_at t) kept 1) q.1.node ((kept 1).formed q.0 q.1 q.2) S (ap (λ P. set.contains (large_slices nat_cmp P) S) stands ∙ is_one.slice_of) in
        let row = there 0 p.0 p.1 in
        (p.0, row.0, row.1, p.2)

    -- the rows of the tables are those of the shape of its set, each with its count
    pub exact_shape : HasShape t (set_of t 3 g)
    exact_shape = record {
      sound = λ d r row at. shape_in total exact graph d (set_of t d r) row.count graph_large (sound d r row at);
      complete = λ d S n s. complete d S n (in_shape total exact graph d S n s).1;
      single = row_single;
    } where
      sound : (d r : ℕ) (row : Row Node) → row_of t d r ≡ Some row → IsRowOf nat_cmp graph d (set_of t d r) row.count
      sound zero r row at = absurd (let f : None ≡ Some row = sym (map.get-empty nat_cmp r) ∙ at in cc)
      sound (suc zero) r row at = (sound_one r row at, exact_one r row at)
      sound (suc (suc zero)) r row at = (sound_two r row at, exact_two r row at)
      sound (suc (suc (suc zero))) r row at = let is = one_graph r row at in (ap (set_of t 3) is.0, is.1)
      sound (suc (suc (suc (suc d)))) r row at = absurd (no_row d r row at)

      complete : (d : ℕ) (S : IdSet) (n : ℕ) → IsRowOf nat_cmp graph d S n → HasRow t d S n
      complete zero S n s = absurd s
      complete (suc zero) S n s =
          let q = complete_one S s.0 in
          record { number = q.0; row = q.1; there = q.2; stands = q.3; counts = exact_one q.0 q.1 q.2 ∙ ap (count1 nat_cmp graph) q.3 ∙ sym s.1 }
      complete (suc (suc zero)) S n s =
          let q = complete_two S s.0 in
          record { number = q.0; row = q.1; there = q.2; stands = q.3; counts = exact_two q.0 q.1 q.2 ∙ ap (count2 nat_cmp graph) q.3 ∙ sym s.1 }
      complete (suc (suc (suc zero))) S n s = record { number = g; row = graph_row.0; there = graph_row.1; stands = sym s.0; counts = (one_graph g graph_row.0 graph_row.1).1 ∙ sym s.1 }
      complete (suc (suc (suc (suc d)))) S n s = absurd s

  -- where nothing is held there are no rows
  pub no_rows : NothingHeld t → (d r : ℕ) → row_of t d r ≡ None
  no_rows none = at where
    empty_above : (d : ℕ) → ((q : ℕ) → row_of t (suc (suc d)) q ≡ None) → (r : ℕ) → row_of t (suc d) r ≡ None
    empty_above d above r = by (row_of t (suc d) r) refl where
      no_edges : edges_from (rows_at t (suc (suc d))) r ≡ 0
      no_edges =
          let is : rows_at t (suc (suc d)) ≡ map.empty = same_maps total exact _ _ (λ q. above q ∙ sym (map.get-empty nat_cmp q)) in
          ap (λ m. edges_from m r) is ∙ sum_over-empty total exact (λ _ row. edges_of row.node r)

      by : (o : Option (Row Node)) → row_of t (suc d) r ≡ o → row_of t (suc d) r ≡ None
      by None e = e
      by (Some row) e = absurd (
          let live = (kept d).live r row e in
          let c : count_of (row_of t (suc d) r) ≡ row.count = ap count_of e in
          let f = counted mixed (rows_at t) kept (suc d) r in
          let h = none (suc d) r in
          let n = no_edges in
          omega arith)

    three : (r : ℕ) → row_of t 3 r ≡ None
    three = empty_above 2 (λ q. map.get-empty nat_cmp q)

    two_none : (r : ℕ) → row_of t 2 r ≡ None
    two_none = empty_above 1 three

    at : (d r : ℕ) → row_of t d r ≡ None
    at zero r = map.get-empty nat_cmp r
    at (suc zero) r = empty_above 0 two_none r
    at (suc (suc zero)) r = two_none r
    at (suc (suc (suc zero))) r = three r
    at (suc (suc (suc (suc d)))) r = map.get-empty nat_cmp r

  -- which is the shape of a set of fewer than two triples
  pub small_shape : NothingHeld t → (G : IdSet) → set.len G ≤ 1 → HasShape t G
  small_shape none G small = record {
    sound = λ d r row at. absurd (let f : None ≡ Some row = sym (no_rows none d r) ∙ at in cc);
    complete = λ d S n s. absurd (let large = (in_shape total exact G d S n s).0 in omega arith);
    single = row_single;
  }
