-- A map changed run by run: the changes that are made are in hand.
use Rattle.std.specs.Prelude.{◌≡◌, ℕ, ◌+◌, ◌<◌, ◌≤◌, ◌^◌, List, [], ◌∷◌, ◌++◌, map, refl, Option, None}
use Rattle.std.proofs.Common.{sym, ◌∙◌, ap, subst, arith}
use Rattle.std.specs.List.Sorted.{IsStrictlySortedBy}
use Rattle.std.specs.Ordering.{nat_cmp}
use Rattle.std.specs.Cmp.Lexicographic.{slice_cmp}
use Rattle.std.specs.FinMap as finite
use Rattle.std.specs.FinSet as set
use Rattle.hypertrie_model.specs.Changes.{after, IsChange}
use Rattle.trie_depth.specs.declared.id.Id.{Id}
use Rattle.edge_map.specs.declared.edge.Edge.{Edge}
use Rattle.edge_map.specs.Edges.{Edges}
use Rattle.trie_context.specs.declared.tables.Tables.{Tables}
use Rattle.trie_context.specs.FitEdges.{set_at, StandsAt, option_leads}
use Rattle.trie_context.specs.EdgeLaws.{stands_stay}
use Rattle.trie_context.specs.Holds.{at_depth, nothing, RowsStay}
use Rattle.trie_context.specs.Kept.{AreKept, AreMoved}
use Rattle.trie_context.specs.MoveLaws.{moved_on, gained_none, at_sum, at_none, rows_as_before, rows_stay_on}
use Rattle.trie_change.specs.declared.change.Change.{Change}
use Rattle.trie_change.specs.Changes.{grows}
use Rattle.trie_change.specs.HandLaws.{set_at_stays}
use Rattle.trie_change.specs.Rooms.{FitsSome, AllFit, changes_lead, AreChanges, AreSmallAfter, first_set}
use Rattle.trie_change.specs.RunLaws as runs
use Rattle.trie_change.specs.RunLaws.{below_weaker, rise_push}
use Rattle.trie_change.specs.Sums.{sum_at, sum_at-push, old_size, old_sizes}

module _ {E : Type 0} (key : E → ℕ) (behind : E → List ℕ) (mixed : ℕ → ℕ → ℕ → ℕ → ℕ) (change : Change) (d : ℕ) (t0 : Tables) (old : Edges) (all : List E) where
  -- the entries before the rest are done, and the changes for them are in hand
  pub record AreDone (t : Tables) (rest : List E) (cs : List (Id × Option Edge)) : Type 0 where
    pub runs : runs.AreDone key behind change d t0 old all t rest cs
    pub moved : AreMoved mixed t0 t (at_depth d (changes_lead cs)) nothing
    pub stay : RowsStay t0 t

  module _ (kept : AreKept mixed t0) (fits : AllFit t0 d old) where
    -- nothing is done yet
    pub begins : (cs : List (Id × Option Edge)) → cs ≡ [] → AreDone t0 all cs
    begins cs none = record {
      runs = runs.begins key behind change d t0 old all fits cs none;
      moved = subst (λ c. AreMoved mixed t0 t0 (at_depth d (changes_lead c)) nothing) (sym none) (gained_none mixed t0 kept (at_depth d (changes_lead [])) (at_none d (changes_lead []) (λ r. refl)));
      stay = rows_as_before t0;
    }

    module _ (order : IsStrictlySortedBy (slice_cmp nat_cmp) (runs.tuples key behind all)) (t : Tables) (rest : List E) (cs : List (Id × Option Edge)) (so_far : AreDone t rest cs)
        (k : Id) (run others : List E) (cut : runs.IsCut key behind rest k.0 run others) where
      pub run_order : IsStrictlySortedBy (slice_cmp nat_cmp) (map behind run)
      run_order = runs.run_order key behind change d t0 old all fits order t rest cs so_far.runs k run others cut

      pub old_there : FitsSome t d (finite.get old k.0)
      old_there = runs.old_there key behind change d t0 old all fits order t rest cs so_far.runs k run others cut

      pub run_change : AreChanges change t0 d old (runs.set_of_tuples key behind all) → IsChange (grows change) (set_at t d (finite.get old k.0)) (set.from_list (map behind run))
      run_change = runs.run_change key behind change d t0 old all fits order t rest cs so_far.runs k run others cut

      pub run_small : AreSmallAfter change t0 d old (runs.set_of_tuples key behind all) → set.len (after (grows change) (set_at t d (finite.get old k.0)) (set.from_list (map behind run))) < 2 ^ 64
      run_small = runs.run_small key behind change d t0 old all fits order t rest cs so_far.runs k run others cut

      -- the old edge under the key stands for as many tuples as at first
      pub old_size_is : (o : Option Edge) → o ≡ finite.get old k.0 → set.len (set_at t d o) ≡ old_size t0 d old k.0
      old_size_is o is = ap (λ o. set.len (set_at t d o)) is ∙ ap set.len (set_at_stays mixed t0 t kept so_far.stay d (finite.get old k.0) (fits k.0))

      -- these and those behind the old edges that are done are some of the map's
      pub old_sizes_so_far : sum_at (old_size t0 d old) cs + old_size t0 d old k.0 ≤ set.len (first_set t0 d old)
      old_sizes_so_far =
          let low = runs.low key behind change d t0 old all fits order t rest cs so_far.runs k run others cut in
          let rise = rise_push 0 cs (k, None) so_far.runs.rise (below_weaker so_far.runs.bound k.0 low cs so_far.runs.under) (omega arith) in
          omega (arith, sum_at-push (old_size t0 d old) cs (k, None), old_sizes t0 d old (cs ++ (k, None) ∷ []) rise)

      -- the run is done
      module _ (u : Tables) (e : Option Edge) (moved : AreMoved mixed t u (at_depth d (option_leads e)) nothing) (stay : RowsStay t u)
          (stands : StandsAt u d (after (grows change) (set_at t d (finite.get old k.0)) (set.from_list (map behind run))) e) where
        abbrev pub step : (new : List (Id × Option Edge)) → new ≡ cs ++ (k, e) ∷ [] → AreDone u others new
        step new is = record {
          runs = runs.step key behind change d t0 old all fits order t rest cs so_far.runs k run others cut u e (λ q ne S. stands_stay mixed t u so_far.moved.kept stay d S _) stands new is;
          moved = subst (λ c. AreMoved mixed t0 u (at_depth d (changes_lead c)) nothing) (sym is)
              (moved_on so_far.moved moved (at_depth d (changes_lead (cs ++ (k, e) ∷ []))) nothing (λ f r. omega (arith, at_sum d (changes_lead (cs ++ (k, e) ∷ [])) (changes_lead cs) (option_leads e) (runs.lead_push cs (k, e)) f r)));
          stay = rows_stay_on t0 t u so_far.stay stay;
        }
