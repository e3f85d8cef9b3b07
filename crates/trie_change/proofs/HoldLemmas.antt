-- A map made of changes in hand: its edges are in hand in their place, or for want of memory everything is as before.
use Rattle.std.specs.Prelude.{◌≡◌, ℕ, zero, suc, ◌+◌, ◌<◌, ◌≤◌, List, refl, cond, nat_eq, true, Option, None, Some}
use Rattle.std.proofs.Common.{sym, ◌∙◌, subst, arith}
use Rattle.std.proofs.lemmas.Bool.Decides.{nat_tests}
use Rattle.std.specs.Cmp.{nat_cmp_total as total}
use Rattle.std.specs.FinMap as finite
use Rattle.std.specs.FinSet as set
use Rattle.std.specs.FinMap.{nat_cmp-IsAntisymmetric as exact}
use Rattle.hypertrie_model.specs.IdSets.{IdSet}
use Rattle.hypertrie_model.specs.FoldLaws.{sum_over-part}
use Rattle.trie_depth.specs.declared.id.Id.{Id}
use Rattle.edge_map.specs.declared.edge.Edge.{Edge}
use Rattle.edge_map.specs.declared.edge.Edge.TheVariants.{Key, Node as ToRow}
use Rattle.edge_map.specs.Edges.{Edges}
use Rattle.trie_node.specs.Sets.{edges_in, leads}
use Rattle.trie_context.specs.declared.tables.Tables.{Tables}
use Rattle.trie_context.specs.Rows.{row_of, LeadsToRow, set_of}
use Rattle.trie_context.specs.RowLaws.{row_there}
use Rattle.trie_context.specs.FitEdges.{FitsAt, StandsAt, option_leads}
use Rattle.trie_context.specs.EdgeLaws.{edge_there, stands_stay}
use Rattle.trie_context.specs.Holds.{holds_of, at_depth, nothing, RowsStay}
use Rattle.trie_context.specs.Kept.{AreKept, AreMoved}
use Rattle.trie_context.specs.MoveLaws.{moved_on, at_here, held_there, rows_stay_on}
use Rattle.trie_context.specs.StayLaws.{sets_stay, stay_through, as_before}
use Rattle.trie_change.specs.declared.change.Change.{Change}
use Rattle.trie_change.specs.Rooms.{changes_lead, AreChanged}

eq_itself : (n : ℕ) → nat_eq n n ≡ true
eq_itself n = grind (arith, nat_tests)

module _ (mixed : ℕ → ℕ → ℕ → ℕ → ℕ) where
  -- an edge into a row that stayed stood for the same set before
  stands_back : (t u : Tables) → AreKept mixed u → RowsStay u t → (d : ℕ) (S : IdSet) (o : Option Edge) → StandsAt t d S o → ((r : ℕ) → 0 < option_leads o r → 1 ≤ holds_of u d r) → StandsAt u d S o
  stands_back t u kept came d S None stands held = stands
  stands_back t u kept came zero S (Some e) stands held = absurd stands.0
  stands_back t u kept came (suc zero) S (Some (Key x)) stands held = stands
  stands_back t u kept came (suc (suc d)) S (Some (Key x)) stands held = absurd stands.0
  stands_back t u kept came (suc zero) S (Some (ToRow n)) stands held =
      let there = held_there u 1 n (held n (subst (λ b. 0 < cond b 1 0) (sym (eq_itself n)) (omega arith))) in
      let row = row_there (row_of u 1 n) there in
      let same : set_of t 1 n ≡ set_of u 1 n = sets_stay mixed u t kept came 1 n row.0 row.1 in
      (subst (λ H. 2 ≤ set.len H) same stands.0, sym same ∙ stands.1)
  stands_back t u kept came (suc (suc d)) S (Some (ToRow n)) stands held =
      let there = held_there u (suc (suc d)) n (held n (subst (λ b. 0 < cond b 1 0) (sym (eq_itself n)) (omega arith))) in
      let row = row_there (row_of u (suc (suc d)) n) there in
      let same : set_of t (suc (suc d)) n ≡ set_of u (suc (suc d)) n = sets_stay mixed u t kept came (suc (suc d)) n row.0 row.1 in
      (subst (λ H. 1 ≤ set.len H) same stands.0, sym same ∙ stands.1)

  -- the edges of a map are held where its rows have as many holds
  pub map_back : (t u : Tables) → AreKept mixed u → RowsStay u t → (d : ℕ) (m : Edges) → ((r : ℕ) → edges_in m r ≤ holds_of u d r) → (k : ℕ) (S : IdSet) → StandsAt t d S (finite.get m k) → StandsAt u d S (finite.get m k)
  map_back t u kept came d m held k S stands = stands_back t u kept came d S (finite.get m k) stands (by (finite.get m k) refl) where
    by : (o : Option Edge) → finite.get m k ≡ o → (r : ℕ) → 0 < option_leads o r → 1 ≤ holds_of u d r
    by None at r pos = absurd (omega arith)
    by (Some e) at r pos = omega (arith, held r, sum_over-part total exact m (λ _ f. leads f r) k e at)

  module _ (t0 t1 : Tables) (kept : AreKept mixed t0) (d : ℕ) (cs : List (Id × Option Edge)) (moved1 : AreMoved mixed t0 t1 (at_depth d (changes_lead cs)) nothing) (stay1 : RowsStay t0 t1) where
    pub changes_held : (r : ℕ) → changes_lead cs r ≤ holds_of t1 d r
    changes_held r = omega (arith, moved1.holds d r, at_here d (changes_lead cs) r)

    -- for want of memory
    pub undone : (t3 : Tables) → AreMoved mixed t1 t3 nothing (at_depth d (changes_lead cs)) → RowsStay t3 t1 → t3 ≡ t0
    undone t3 moved3 came3 =
        as_before mixed t0 t1 t3 kept moved3.kept stay1 came3 (λ e r. omega (arith, moved1.holds e r, moved3.holds e r)) (λ e. moved3.reserved e ∙ moved1.reserved e)

    module _ (t2 : Tables) (m : Edges) (moved2 : AreMoved mixed t1 t2 (at_depth d (edges_in m)) nothing) (stay2 : RowsStay t1 t2) where
      pub changes_held_still : (r : ℕ) → changes_lead cs r ≤ holds_of t2 d r
      changes_held_still r = omega (arith, moved1.holds d r, moved2.holds d r, at_here d (changes_lead cs) r)

      module _ (t3 : Tables) (moved3 : AreMoved mixed t2 t3 nothing (at_depth d (changes_lead cs))) (came3 : RowsStay t3 t2) where
        pub map_moved : AreMoved mixed t0 t3 (at_depth d (edges_in m)) nothing
        map_moved = moved_on (moved_on moved1 moved2 both nothing (λ e r. omega arith)) moved3 (at_depth d (edges_in m)) nothing (λ e r. omega arith) where
          both : ℕ → ℕ → ℕ
          both e r = at_depth d (changes_lead cs) e r + at_depth d (edges_in m) e r

        pub map_stay : RowsStay t0 t3
        map_stay = stay_through mixed t0 t2 t3 kept moved3.kept (rows_stay_on t0 t1 t2 stay1 stay2) came3 (λ e r. omega (arith, map_moved.holds e r))

        pub map_changed : (change : Change) (old : Edges) (B : IdSet) → AreChanged change t0 t1 d old B m → AreChanged change t0 t3 d old B m
        map_changed change old B changes k =
            map_back t2 t3 moved3.kept came3 d m (λ r. omega (arith, map_moved.holds d r, at_here d (edges_in m) r)) k _
            (stands_stay mixed t1 t2 moved1.kept stay2 d _ (finite.get m k) (changes k))

  -- the rows that the edges of a map lead to are there
  pub map_there : (t : Tables) (d : ℕ) (m : Edges) → ((k : ℕ) → (S : IdSet) × StandsAt t d S (finite.get m k)) → (k : ℕ) (e : Edge) → finite.get m k ≡ Some e → LeadsToRow t d e
  map_there t d m stands k e at = edge_there t d e (by (stands k).0 (finite.get m k) at (stands k).1) where
    by : (S : IdSet) (o : Option Edge) → o ≡ Some e → StandsAt t d S o → FitsAt t d e
    by S None is s = absurd (let f : None ≡ Some e = is in cc)
    by S (Some f) is s = subst (FitsAt t d) (same f e is) s.0 where
      same : (f e : Edge) → Some f ≡ Some e → f ≡ e
      same f e is = cc
