-- Rows of pairs that other edges lead to: what a change copies because of them.
use Rattle.std.specs.Prelude.{◌≡◌, ◌≢◌, ℕ, zero, suc, ◌+◌, ◌*◌, ◌<◌, ◌≤◌, ◌&&◌, ◌||◌, Bool, true, false, not, cond, nat_le, List, [], ◌∷◌, ◌++◌, refl, Option, None, Some, option_map}
use Rattle.std.proofs.Common.{sym, ◌∙◌, ap, subst, arith}
use Rattle.std.proofs.lemmas.Bool.Decides.{nat_tests}
use Rattle.std.specs.Ordering.{nat_cmp, eq_by_cmp}
use Rattle.std.specs.Cmp.{nat_cmp_total as total}
use Rattle.std.specs.Cmp.Lexicographic.{slice_cmp}
use Rattle.std.specs.List.Sorted.{IsStrictlySortedBy}
use Rattle.std.specs.FinMap as map
use Rattle.std.specs.FinMap.{nat_cmp-IsAntisymmetric as exact}
use Rattle.std.specs.FinSet as set
use native.Mathlib.Decide.{dec_lt}
use Rattle.hypertrie_model.specs.Changes.{after, IsChange}
use Rattle.hypertrie_model.specs.ChangeLaws.{slice-after, len-grown, len-shrunk}
use Rattle.hypertrie_model.specs.Folds.{marked}
use Rattle.hypertrie_model.specs.FoldLaws.{sum_over-empty, sum_over-part, get-marked, part}
use Rattle.hypertrie_model.specs.IdSets.{IdSet}
use Rattle.hypertrie_model.specs.MapLaws.{same_maps}
use Rattle.hypertrie_model.specs.Members.{counted_by, contains-kept}
use Rattle.hypertrie_model.specs.SetLaws.{or_right, tied-itself, tied-apart}
use Rattle.hypertrie_model.specs.Shapes.{set_cmp, times, count2}
use Rattle.hypertrie_model.specs.ShapeLaws.{sets_total, sets_exact, count2-sum, times-sum, test_of_le}
use Rattle.hypertrie_model.specs.SliceLaws.{slice-no_key}
use Rattle.hypertrie_model.specs.Slices.{keys, slice}
use Rattle.trie_depth.specs.declared.id.Id.{Id}
use Rattle.trie_depth.specs.declared.id.Trip.{Trip}
use Rattle.edge_map.specs.Entries.{KeysRise}
use Rattle.edge_map.specs.declared.edge.Edge.{Edge}
use Rattle.edge_map.specs.declared.edge.Edge.TheVariants.{Key, Node as ToRow}
use Rattle.edge_map.specs.Edges.{Edges}
use Rattle.node_table.specs.Table.{Row}
use Rattle.trie_node.specs.declared.node.Node.{Node}
use Rattle.trie_node.specs.Sets.{edges_of}
use Rattle.trie_context.specs.declared.tables.Tables.{Tables}
use Rattle.trie_context.specs.EdgeLaws.{stands_is, filled_there}
use Rattle.trie_context.specs.FitEdges.{set_at, StandsAt, option_leads}
use Rattle.trie_context.specs.EdgeCounts.{node_filled, triple_edges}
use Rattle.trie_context.specs.Holds.{count_of, edges_from, holds_of, one_at, at_depth}
use Rattle.trie_context.specs.Kept.{AreKept}
use Rattle.trie_context.specs.MoveLaws.{at_here, at_other, same_or_not, leads_one, leads_at_most, one_elsewhere}
use Rattle.trie_context.specs.NodeLaws.{node_set_is, node_formed, node_counted}
use Rattle.trie_context.specs.RowLaws.{rows_named, counted, row_there}
use Rattle.trie_context.specs.Rows.{rows_at, row_of, node_of, set_of}
use Rattle.trie_context.specs.Shape.{OnlyHeld}
use Rattle.trie_context.specs.StayLaws.{counted_there}
use Rattle.change_log.specs.Log.{edge_hold}
use Rattle.change_log.specs.Logged.{OthersStay}
use Rattle.trie_change.specs.declared.change.Change.{Change}
use Rattle.trie_change.specs.After.{triples_of}
use Rattle.trie_change.specs.Batches.{set_of_entries, trip_rest}
use Rattle.trie_change.specs.BatchLaws.{order_once}
use Rattle.trie_change.specs.Changes.{grows}
use Rattle.trie_change.specs.Extra.{is_shared, touched, shared_edges, extra_at}
use Rattle.trie_change.specs.Rooms.{FitsSome, AllFit, AreChanges, AreSlicesAt}
use Rattle.trie_change.specs.RunLaws as runs
use Rattle.trie_change.specs.RunLaws.{below_weaker, rise_push}
use Rattle.trie_change.specs.Sums.{sum_at, sum_at-push, sum_at-within}
use Rattle.trie_reopen.specs.Shared.{HoldsRiseBy, AreShared, AreTurned}

-- ---- counts of rows of pairs

module _ (mixed : ℕ → ℕ → ℕ → ℕ → ℕ) (t : Tables) (kept : AreKept mixed t) (none : (r : ℕ) → holds_of t 3 r ≡ 0) where
  -- no row of triples is there, since nothing leads to one
  no_triples : (r : ℕ) → map.get (rows_at t 3) r ≡ map.get {R = nat_cmp} map.empty r
  no_triples r = by (row_of t 3 r) refl ∙ sym (map.get-empty nat_cmp r) where
    by : (o : Option (Row Node)) → row_of t 3 r ≡ o → map.get (rows_at t 3) r ≡ None
    by None at = at
    by (Some row) at =
        let live = (kept 2).live r row at in
        let count : count_of (row_of t 3 r) ≡ row.count = ap count_of at in
        absurd (omega (arith, counted mixed (rows_at t) kept 3 r, sum_over-empty total exact (λ _ (row : Row Node). edges_of row.node r), none r))

  no_edges : (r : ℕ) → edges_from (rows_at t 3) r ≡ 0
  no_edges r = ap (λ rows. edges_from rows r) (same_maps total exact (rows_at t 3) map.empty no_triples) ∙ sum_over-empty total exact (λ _ (row : Row Node). edges_of row.node r)

  -- each edge to a row of pairs is a hold
  pub all_holds : (r : ℕ) → count_of (row_of t 2 r) ≡ holds_of t 2 r
  all_holds r = omega (arith, counted mixed (rows_at t) kept 2 r, no_edges r)

cond_is : (b : Bool) (n : ℕ) → b ≡ true → cond b n 0 ≡ n
cond_is true n is = refl
cond_is false n is = absurd (let f : ⊥ = cc in f)

cond_most : (b : Bool) (n : ℕ) → cond b n 0 ≤ n
cond_most true n = omega arith
cond_most false n = omega arith

module _ (G H : IdSet) where
  -- pairs that more than one edge leads to are shared
  pub copied : (mixed : ℕ → ℕ → ℕ → ℕ → ℕ) (t : Tables) → AreKept mixed t → AreShared G H t → (o : Option Edge) → FitsSome t 2 o → ((r : ℕ) → o ≡ Some (ToRow r) → count_of (row_of t 2 r) ≢ 1)
      → 2 * set.len (set_at t 2 o) ≤ shared_edges G H (set_at t 2 o)
  copied mixed t kept shared None fits others = omega (arith, set.len-empty (slice_cmp nat_cmp))
  copied mixed t kept shared (Some (Key x)) fits others = absurd fits
  copied mixed t kept shared (Some (ToRow r)) fits others =
      let row = row_there (row_of t 2 r) (filled_there t 2 r fits) in
      let live = (kept 1).live r row.0 row.1 in
      let count : count_of (row_of t 2 r) ≡ row.0.count = ap count_of row.1 in
      let two : 2 ≤ holds_of t 2 r = elim (dec_lt 1 (holds_of t 2 r)) as (λ _. 2 ≤ holds_of t 2 r) [
        | yes p ↦ omega arith
        | no p ↦ absurd (others r refl (omega (arith, all_holds mixed t kept shared.none r)))
      ] in
      omega (arith, cond_is (is_shared G H (set_of t 2 r)) (2 * set.len (set_of t 2 r)) (shared.pairs r two))

  -- an edge replaced: the new one is the only hold more
  pub shared_on : (t u : Tables) (old new : Option Edge) (S : IdSet) → AreShared G H t → HoldsRiseBy t u (edge_hold 2 new) → OthersStay t u (edge_hold 2 old) → StandsAt u 2 S new → (1 ≤ set.len S → is_shared G H S ≡ true) → AreShared G H u
  shared_on t u old new S shared risen stay stands made = record {
    none = λ r. omega (arith, risen 3 r (omega arith), shared.none r, at_other 2 (option_leads new) 3 r (λ is. omega arith));
    pairs = λ r two. by new refl r two;
  } where
    at_most_one : (o : Option Edge) (r : ℕ) → option_leads o r ≤ 1
    at_most_one None r = omega arith
    at_most_one (Some e) r = leads_at_most e r

    as_before : (r : ℕ) → 2 ≤ holds_of u 2 r → option_leads new r ≡ 0 → is_shared G H (set_of u 2 r) ≡ true
    as_before r two none =
        let was : 2 ≤ holds_of t 2 r = omega (arith, risen 2 r (omega arith), at_here 2 (option_leads new) r) in
        let same = (stay 2 r (omega (arith, was, at_here 2 (option_leads old) r, at_most_one old r))).1 in
        subst (λ P. is_shared G H P ≡ true) (sym same) (shared.pairs r was)

    by : (o : Option Edge) → new ≡ o → (r : ℕ) → 2 ≤ holds_of u 2 r → is_shared G H (set_of u 2 r) ≡ true
    by None is r two = as_before r two (ap (λ o. option_leads o r) is)
    by (Some (Key x)) is r two = as_before r two (ap (λ o. option_leads o r) is)
    by (Some (ToRow n)) is r two =
        let there : StandsAt u 2 S (Some (ToRow n)) = subst (StandsAt u 2 S) is stands in
        same_or_not r n _
        (λ same.
        let own : set_of u 2 r ≡ S = ap (set_of u 2) same ∙ there.1 in
        let filled : 1 ≤ set.len S = subst (λ P. 1 ≤ set.len P) there.1 there.0 in
        subst (λ P. is_shared G H P ≡ true) (sym own) (made filled))
        (λ ne. as_before r two (ap (λ o. option_leads o r) is ∙ leads_one n r ∙ one_elsewhere n r ne))

  -- ---- slices of the new set

  test_one : (n : ℕ) → 1 ≤ n → nat_le 1 n ≡ true
  test_one n some = grind (arith, nat_tests)

  key_there : (i k : ℕ) → 1 ≤ set.len (slice nat_cmp H i k) → set.contains (keys nat_cmp H i) k ≡ true
  key_there i k some = by (set.contains (keys nat_cmp H i) k) refl where
    by : (b : Bool) → set.contains (keys nat_cmp H i) k ≡ b → set.contains (keys nat_cmp H i) k ≡ true
    by true is = is
    by false is = absurd (omega (arith, ap set.len (slice-no_key total exact H i k is), set.len-empty (slice_cmp nat_cmp)))

  slice_counted : (i k : ℕ) → 1 ≤ set.len (slice nat_cmp H i k) → 1 ≤ times nat_cmp H i (slice nat_cmp H i k)
  slice_counted i k some =
      let S = slice nat_cmp H i k in
      let own : counted_by (eq_by_cmp (set_cmp nat_cmp) S S) ≡ 1 = ap counted_by (tied-itself (sets_total total exact) S) in
      omega (
        arith,
        times-sum total exact H i S,
        sum_over-part total exact (marked (keys nat_cmp H i)) (λ q _. counted_by (eq_by_cmp (set_cmp nat_cmp) (slice nat_cmp H i q) S)) k tt (get-marked total exact (keys nat_cmp H i) k ∙ ap (λ b. cond b (Some tt) None) (key_there i k some)),
        own,
      )

  counted_at : (i : ℕ) (S : IdSet) → i < 3 → 1 ≤ times nat_cmp H i S → 1 ≤ count2 nat_cmp H S
  counted_at zero S low some = omega (arith, count2-sum nat_cmp H S)
  counted_at (suc zero) S low some = omega (arith, count2-sum nat_cmp H S)
  counted_at (suc (suc zero)) S low some = omega (arith, count2-sum nat_cmp H S)
  counted_at (suc (suc (suc i))) S low some = absurd (omega arith)

  made_shared : (i k : ℕ) → i < 3 → 1 ≤ set.len (slice nat_cmp H i k) → is_shared G H (slice nat_cmp H i k) ≡ true
  made_shared i k low some =
      let S = slice nat_cmp H i k in
      or_right (nat_le 2 (count2 nat_cmp G S)) (nat_le 1 (count2 nat_cmp H S)) (test_one (count2 nat_cmp H S) (counted_at i S low (slice_counted i k some)))

  -- what is shared of the slice under a key, where it is touched
  abbrev pub cost_at : ℕ → ℕ → ℕ
  cost_at i k = part (λ k _. shared_edges G H (slice nat_cmp G i k)) k (map.get (marked (touched G H i)) k)

  cost_is : (i k : ℕ) → slice nat_cmp G i k ≢ slice nat_cmp H i k → shared_edges G H (slice nat_cmp G i k) ≤ cost_at i k
  cost_is i k differ = by (set.contains (keys nat_cmp G i) k) refl where
    marked_as : (b : Bool) → set.contains (touched G H i) k ≡ b → map.get (marked (touched G H i)) k ≡ cond b (Some tt) None
    marked_as b is = get-marked total exact (touched G H i) k ∙ ap (λ b. cond b (Some tt) None) is

    by : (b : Bool) → set.contains (keys nat_cmp G i) k ≡ b → shared_edges G H (slice nat_cmp G i k) ≤ cost_at i k
    by true is =
        let here : set.contains (touched G H i) k ≡ true =
        contains-kept total exact (keys nat_cmp G i) (λ k. not (eq_by_cmp (set_cmp nat_cmp) (slice nat_cmp G i k) (slice nat_cmp H i k))) k
        ∙ ap (λ b. b && not (eq_by_cmp (set_cmp nat_cmp) (slice nat_cmp G i k) (slice nat_cmp H i k))) is
        ∙ ap not (tied-apart (sets_exact total exact) (slice nat_cmp G i k) (slice nat_cmp H i k) differ) in
        omega (arith, ap (part (λ k _. shared_edges G H (slice nat_cmp G i k)) k) (marked_as true here))
    by false is = omega (arith, ap set.len (slice-no_key total exact G i k is), set.len-empty (slice_cmp nat_cmp), cond_most (is_shared G H (slice nat_cmp G i k)) (2 * set.len (slice nat_cmp G i k)))

-- a set changed by a tuple or more is another
changed_apart : (g : Bool) (S B : IdSet) → IsChange g S B → 1 ≤ set.len B → S ≢ after g S B
changed_apart true S B may some is = omega (arith, len-grown total exact S B may, ap set.len is)
changed_apart false S B may some is = omega (arith, len-shrunk total exact S B may, ap set.len is)

module _ (change : Change) (G H : IdSet) (i : ℕ) (t0 : Tables) (old : Edges) (triples : List Trip) (turned : AreTurned change G H i t0 old triples) where
  -- the old edge stands for the slice of G
  pub old_slice : (k : ℕ) → set_at t0 2 (map.get old k) ≡ slice nat_cmp G i k
  old_slice k = stands_is t0 2 (slice nat_cmp G i k) (map.get old k) (turned.slices k)

  module _ (k : ℕ) (run : List Trip) (listed : slice nat_cmp (triples_of triples) 0 k ≡ set_of_entries trip_rest run) where
    -- the new edge stands for the slice of H
    new_slice : after (grows change) (set_at t0 2 (map.get old k)) (set_of_entries trip_rest run) ≡ slice nat_cmp H i k
    new_slice = (λ j. after (grows change) (old_slice k j) (sym listed j)) ∙ turned.changed k

    pub new_shared : 1 ≤ set.len (after (grows change) (set_at t0 2 (map.get old k)) (set_of_entries trip_rest run)) → is_shared G H (after (grows change) (set_at t0 2 (map.get old k)) (set_of_entries trip_rest run)) ≡ true
    new_shared some = subst (λ S. is_shared G H S ≡ true) (sym new_slice) (made_shared G H i k turned.position (subst (λ S. 1 ≤ set.len S) new_slice some))

    -- the run touches the slice
    pub old_cost : IsChange (grows change) (set_at t0 2 (map.get old k)) (set_of_entries trip_rest run) → 1 ≤ set.len (set_of_entries trip_rest run) → shared_edges G H (set_at t0 2 (map.get old k)) ≤ cost_at G H i k
    old_cost may some = subst (λ S. shared_edges G H S ≤ cost_at G H i k) (sym (old_slice k))
        (cost_is G H i k (λ is. changed_apart (grows change) (set_at t0 2 (map.get old k)) (set_of_entries trip_rest run) may some (old_slice k ∙ is ∙ sym new_slice)))

-- ---- a map changed run by run

module _ (change : Change) (G H : IdSet) (i : ℕ) where
  pub costs_within : (cs : List (Id × Option Edge)) → KeysRise cs → sum_at (cost_at G H i) cs ≤ extra_at G H i
  costs_within cs rise = sum_at-within (λ k _. shared_edges G H (slice nat_cmp G i k)) 0 cs (marked (touched G H i)) rise

  module _ (t0 : Tables) (old : Edges) (all : List Trip) (turned : AreTurned change G H i t0 old all) (fits : AllFit t0 2 old) (order : IsStrictlySortedBy (slice_cmp nat_cmp) (runs.tuples (λ (p : Trip). p.0.0) trip_rest all)) (may : AreChanges change t0 2 old (triples_of all))
      (t : Tables) (rest : List Trip) (cs : List (Id × Option Edge)) (so_far : runs.AreDone (λ (p : Trip). p.0.0) trip_rest change 2 t0 old all t rest cs) (k : Id) (run others : List Trip) (cut : runs.IsCut (λ (p : Trip). p.0.0) trip_rest rest k.0 run others) where
    same : set_at t 2 (map.get old k.0) ≡ set_at t0 2 (map.get old k.0)
    same = runs.old_same (λ (p : Trip). p.0.0) trip_rest change 2 t0 old all fits order t rest cs so_far k run others cut

    listed : slice nat_cmp (triples_of all) 0 k.0 ≡ set_of_entries trip_rest run
    listed = runs.run_slice (λ (p : Trip). p.0.0) trip_rest change 2 t0 old all fits order t rest cs so_far k run others cut

    filled : 1 ≤ set.len (set_of_entries trip_rest run)
    filled = omega (arith, order_once trip_rest run (runs.run_order (λ (p : Trip). p.0.0) trip_rest change 2 t0 old all fits order t rest cs so_far k run others cut), cut.some)

    -- what is shared of the old pairs is counted under their key
    pub run_cost : (o : Option Edge) → o ≡ map.get old k.0 → shared_edges G H (set_at t 2 o) ≤ cost_at G H i k.0
    run_cost o is = subst (λ S. shared_edges G H S ≤ cost_at G H i k.0) (sym (ap (set_at t 2) is ∙ same))
        (old_cost change G H i t0 old all turned k.0 run listed
        (subst (λ S. IsChange (grows change) S (set_of_entries trip_rest run)) same (runs.run_change (λ (p : Trip). p.0.0) trip_rest change 2 t0 old all fits order t rest cs so_far k run others cut may)) filled)

    -- the new pairs are a slice of H
    pub run_shared : (o : Option Edge) → o ≡ map.get old k.0 → 1 ≤ set.len (after (grows change) (set_at t 2 o) (set_of_entries trip_rest run)) → is_shared G H (after (grows change) (set_at t 2 o) (set_of_entries trip_rest run)) ≡ true
    run_shared o is = subst (λ S. 1 ≤ set.len (after (grows change) S (set_of_entries trip_rest run)) → is_shared G H (after (grows change) S (set_of_entries trip_rest run)) ≡ true) (sym (ap (set_at t 2) is ∙ same))
        (new_shared change G H i t0 old all turned k.0 run listed)

    -- with those that are done it is no more than all that is shared
    pub costs_so_far : sum_at (cost_at G H i) cs + cost_at G H i k.0 ≤ extra_at G H i
    costs_so_far =
        let low = runs.low (λ (p : Trip). p.0.0) trip_rest change 2 t0 old all fits order t rest cs so_far k run others cut in
        let rise = rise_push 0 cs (k, None) so_far.rise (below_weaker so_far.bound k.0 low cs so_far.under) (omega arith) in
        omega (arith, sum_at-push (cost_at G H i) cs (k, None), costs_within (cs ++ (k, None) ∷ []) rise)

-- ---- the row of a graph taken out

module _ (mixed : ℕ → ℕ → ℕ → ℕ → ℕ) (t0 : Tables) (kept : AreKept mixed t0) (row : ℕ) (node : Node) (at : node_of t0 3 row ≡ Some node) where
  edges_counted : (r : ℕ) → 1 ≤ edges_of node r → edges_of node r ≡ count2 nat_cmp (set_of t0 3 row) (set_of t0 2 r)
  edges_counted r some =
      let there = counted_there t0 2 r (omega (arith, some, node_counted mixed t0 kept 2 row node at r)) in
      let low_at : node_of t0 2 r ≡ Some there.0.node = ap (option_map (λ (row : Row Node). row.node)) there.1 in
      let filled = node_filled mixed 2 (set_of t0 1) there.0.node (node_formed mixed t0 kept 1 r there.0.node low_at) in
      triple_edges mixed (set_of t0 2) (rows_named mixed (rows_at t0) kept 2) node (node_formed mixed t0 kept 2 row node at) r (omega (arith, filled, ap set.len (node_set_is t0 1 r there.0.node low_at)))
      ∙ ap (λ G. count2 nat_cmp G (set_of t0 2 r)) (sym (node_set_is t0 2 row node at))

  -- where nothing but the root is held, a row has the slices of G that it is for holds
  pub starts_shared : (H : IdSet) (t1 : Tables) → OnlyHeld t0 row → ((d r : ℕ) → holds_of t1 d r + at_depth 3 (one_at row) d r ≡ holds_of t0 d r + at_depth 2 (edges_of node) d r) → ((r : ℕ) → set_of t1 2 r ≡ set_of t0 2 r) → AreShared (set_of t0 3 row) H t1
  starts_shared H t1 only holds below = record {
    none = λ r. omega (arith, holds 3 r, at_here 3 (one_at row) r, at_other 2 (edges_of node) 3 r (λ is. omega arith), only.here r);
    pairs = λ r two.
        let edges : 2 ≤ edges_of node r = omega (arith, holds 2 r, at_other 3 (one_at row) 2 r (λ is. omega arith), at_here 2 (edges_of node) r, (only.below r).0, two) in
        subst (λ P. is_shared (set_of t0 3 row) H P ≡ true) (sym (below r))
        (ap (λ b. b || nat_le 1 (count2 nat_cmp H (set_of t0 2 r))) (test_of_le (count2 nat_cmp (set_of t0 3 row) (set_of t0 2 r)) (omega (arith, edges, edges_counted r (omega arith)))));
  }

-- the edges of the slices of G at a position, which a batch makes those of the changed set
pub turned_by : (change : Change) (G B : IdSet) (i : ℕ) → i < 3 → (t : Tables) (old : Edges) (triples : List Trip) → AreSlicesAt t 2 G i old → ((k : ℕ) → slice nat_cmp (triples_of triples) 0 k ≡ slice nat_cmp B i k) → AreTurned change G (after (grows change) G B) i t old triples
turned_by change G B i low t old triples slices listed = record {
  position = low;
  slices = slices;
  changed = λ k. ap (after (grows change) (slice nat_cmp G i k)) (listed k) ∙ sym (slice-after total exact (grows change) G B i k);
}
