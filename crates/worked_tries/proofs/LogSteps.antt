-- The steps of the change that the tests of a log make, over plain tables.
use Rattle.std.specs.Prelude.{◌≡◌, ◌≢◌, ℕ, ◌+◌, ◌<◌, ◌≤◌, List, [], ◌∷◌, refl, Some}
use Rattle.std.proofs.Common.{sym, ◌∙◌, ap, subst, arith}
use Rattle.std.specs.Ordering.{nat_cmp}
use Rattle.std.specs.Cmp.{nat_cmp_total as total}
use Rattle.std.specs.FinMap as map
use Rattle.std.specs.FinMap.{nat_cmp-IsAntisymmetric as exact}
use Rattle.hypertrie_model.specs.MapLaws.{get-remove_here, get-remove_other}
use Rattle.edge_map.specs.declared.edge.Edge.TheVariants.{Node as ToRow}
use Rattle.node_table.specs.Table.{Row, Table, Spot}
use Rattle.trie_node.specs.declared.node.Node.{Node}
use Rattle.trie_node.specs.Sets.{leads, edges_of}
use Rattle.trie_context.specs.declared.kept.Kept.{Kept}
use Rattle.trie_context.specs.declared.kept.Kept.TheVariants.{Made, Found}
use Rattle.trie_context.specs.declared.tables.Tables.{Tables}
use Rattle.trie_context.specs.Rows.{table_at, row_of, node_of, set_of, LeadsToRow}
use Rattle.trie_context.specs.Holds.{count_of, holds_of, one_at, at_depth, nothing, HasRoom, CountsRiseBy, RowsStay}
use Rattle.trie_context.specs.Interned.{IsInterned, kept_row, came_back}
use Rattle.trie_context.specs.Kept.{IsNode, AreKept, AreMoved}
use Rattle.trie_context.specs.Opened.{IsOpened}
use Rattle.trie_context.specs.MoveLaws.{at_here, at_most, at_other, held_there, leads_at_most, leads_one, one_elsewhere, one_here, same_or_not, there_row}
use Rattle.trie_context.specs.RowLaws.{node_same}
use Rattle.trie_context.specs.StayLaws.{sets_stay}
use Rattle.change_log.specs.declared.step.RowStep.TheVariants.{Opened, Made as MadeRow, Found as FoundRow, Replaced}
use Rattle.change_log.specs.declared.step.Step.{Step}
use Rattle.change_log.specs.declared.step.Step.TheVariants.{Keys, Pairs}
use Rattle.change_log.specs.Log.{edge_hold, keeps}
use Rattle.change_log.specs.PutLaws.{beside_put}
use Rattle.worked_tries.specs.Logs.{AreFew, CanChange, IsChanged, kept_step}
use Rattle.worked_tries.proofs.HoldSteps.{few_room}

pub same_row : (n r : ℕ) → ToRow n ≡ ToRow r → n ≡ r
same_row n r e = cc

count_less : (rows : map.FinMap nat_cmp (Row Node)) (n r : ℕ) → count_of (map.get (map.remove rows n) r) ≤ count_of (map.get rows r)
count_less rows n r = same_or_not r n _
    (λ is. let none : count_of (map.get (map.remove rows n) r) ≡ 0 = ap (λ q. count_of (map.get (map.remove rows n) q)) is ∙ ap count_of (get-remove_here total exact rows n) in omega arith)
    (λ ne. let same : count_of (map.get (map.remove rows n) r) ≡ count_of (map.get rows r) = ap count_of (get-remove_other total exact rows n r ne) in omega arith)

module _ (mixed : ℕ → ℕ → ℕ → ℕ → ℕ) (t : Tables) (kept : AreKept mixed t) (keys others row : ℕ) (pairs : Node) (can : CanChange mixed t keys others row pairs)
    (u : Tables) (place : Spot) (node : Node) (number : place.number ≡ row) (opened : IsOpened mixed t u 2 place node) where
  -- the row is taken out
  abbrev first_log : List Step
  first_log = Pairs (Opened place node) ∷ []

  pub first_changed : IsChanged mixed t u first_log
  first_changed = record { led = (t, refl, kept, opened); held = λ d r. omega arith }

  first_holds : (r : ℕ) → holds_of u 1 r ≡ holds_of t 1 r + edges_of node r
  first_holds r = omega (arith, opened.moved.holds 1 r, at_here 1 (edges_of node) r, at_other 2 (one_at place.number) 1 r (λ is. omega arith))

  first_few : AreFew u 3
  first_few d r = same_or_not d 2 _
      (λ is.
      let same : count_of (row_of u d r) ≡ count_of (map.get (map.remove (table_at t 2).rows place.number) r) = ap (λ e. count_of (row_of u e r)) is ∙ ap (λ v. count_of (row_of v 2 r)) opened.gone in
      omega (arith, count_less (table_at t 2).rows place.number r, can.few 2 r))
      (λ ne.
      let same : count_of (row_of u d r) ≡ count_of (row_of t d r) = ap (λ v. count_of (row_of v d r)) opened.gone ∙ ap (λ (x : Table Node). count_of (map.get x.rows r)) (beside_put t 2 _ d ne) in
      omega (arith, can.few d r))

  pub first_room : HasRoom u
  first_room = few_room u 3 (omega arith) first_few

  pub others_there : LeadsToRow u 1 (ToRow others)
  others_there = held_there u 1 others (omega (arith, can.others_held, first_holds others))

  -- the edge to the keys is exchanged
  module _ (v : Tables) (moved : AreMoved mixed u v (at_depth 1 (leads (ToRow others))) nothing) (counts : CountsRiseBy u v (at_depth 1 (leads (ToRow others)))) (stay : RowsStay u v) where
    abbrev second_log : List Step
    second_log = Keys (Replaced (Some (ToRow keys)) (Some (ToRow others))) ∷ first_log

    second_holds : (r : ℕ) → holds_of v 1 r ≡ holds_of t 1 r + (edges_of node r + one_at others r)
    second_holds r = omega (arith, first_holds r, moved.holds 1 r, at_here 1 (leads (ToRow others)) r, leads_one others r)

    keys_held : (r : ℕ) → edge_hold 1 (Some (ToRow keys)) 1 r ≤ edges_of node r
    keys_held r =
        let was = can.leads node (sym (ap (node_of t 2) number) ∙ opened.was) r in
        omega (arith, at_here 1 (leads (ToRow keys)) r, leads_one keys r, was)

    no_keys : (d r : ℕ) → d ≢ 1 → edge_hold 1 (Some (ToRow keys)) d r ≡ 0
    no_keys d r ne = at_other 1 (leads (ToRow keys)) d r ne

    pub second_changed : IsChanged mixed t v second_log
    second_changed = record {
      led = (u, first_changed.led, opened.moved.kept, (moved, stay));
      held = λ d r. same_or_not d 1 _
          (λ is. subst (λ e. keeps second_log e r ≤ holds_of v e r) (sym is) (omega (arith, keys_held r, second_holds r)))
          (λ ne. omega (arith, no_keys d r ne));
    }

    second_few : AreFew v 4
    second_few d r = omega (arith, first_few d r, counts d r, at_most 1 (leads (ToRow others)) 1 (leads_at_most (ToRow others)) d r)

    pub second_room : HasRoom v
    second_room = few_room v 4 (omega arith) second_few

    pub pairs_held : (r : ℕ) → edges_of pairs r ≤ holds_of v 1 r
    pairs_held r = omega (arith, can.edges r, second_holds r)

    pub pairs_form : IsNode mixed 2 (set_of v 1) pairs
    pairs_form = node_same mixed 2 (set_of u 1) (set_of v 1) pairs below (subst (λ sets. IsNode mixed 2 sets pairs) (sym (ap (λ w. set_of w 1) opened.gone)) can.form) where
      below : (r : ℕ) → 0 < edges_of pairs r → set_of u 1 r ≡ set_of v 1 r
      below r pos = same_or_not r others _
          (λ is.
          let s = there_row u 1 r (subst (λ q. 1 ≤ holds_of u 1 q) (sym is) (omega (arith, can.others_held, first_holds others))) in
          sym (sets_stay mixed u v opened.moved.kept stay 1 r s.0 s.1))
          (λ ne. absurd (omega (arith, can.edges r, one_elsewhere others r ne, pos)))

    -- the other pairs are put in
    module _ {L E S : Type 0} (w : Tables) where
      pub third_changed : (k : Kept L E S) → IsInterned mixed v w 2 pairs (kept_row k) (came_back k) → IsChanged mixed t w (kept_step k ∷ second_log)
      third_changed (Made m) is = record {
        led = (v, second_changed.led, moved.kept, (pairs, is));
        held = λ d r. same_or_not d 1 _
            (λ one. subst (λ e. keeps (Pairs (MadeRow m) ∷ second_log) e r ≤ holds_of w e r) (sym one) (omega (arith, keys_held r, second_holds r, is.moved.holds 1 r, can.edges r, at_here 1 (edges_of pairs) r)))
            (λ ne. omega (arith, no_keys d r ne));
      }
      third_changed (Found m same) is = record {
        led = (v, second_changed.led, moved.kept, subst (λ n. IsInterned mixed v w 2 n m (Some same)) (sym is.came.0) is);
        held = λ d r. same_or_not d 1 _
            (λ one. subst (λ e. keeps (Pairs (FoundRow m same) ∷ second_log) e r ≤ holds_of w e r) (sym one)
            (let alike : edges_of same r ≡ edges_of pairs r = ap (λ n. edges_of n r) is.came.0 in
            omega (arith, keys_held r, second_holds r, is.moved.holds 1 r, can.edges r, at_here 1 (edges_of same) r, at_here 1 (λ _. 0) r, at_other 2 (one_at m) 1 r (λ is. omega arith))))
            (λ ne. omega (arith, no_keys d r ne, at_other 1 (edges_of same) d r ne));
      }

      pub third_held : (k : Kept L E S) → IsInterned mixed v w 2 pairs (kept_row k) (came_back k) → keeps (kept_step k ∷ second_log) 2 (kept_row k) + 1 ≤ holds_of w 2 (kept_row k)
      third_held (Made m) is = omega (arith, no_keys 2 m (λ is. omega arith), is.moved.holds 2 m, at_here 2 (one_at m) m, one_here m, at_other 1 (edges_of pairs) 2 m (λ is. omega arith))
      third_held (Found m same) is = omega (arith, no_keys 2 m (λ is. omega arith), is.moved.holds 2 m, at_here 2 (one_at m) m, one_here m, at_other 1 (λ _. 0) 2 m (λ is. omega arith), at_other 1 (edges_of same) 2 m (λ is. omega arith))
