-- A map whose edges are in hand, changed run by run: each old edge is handed over for a new one.
use Rattle.std.specs.Prelude.{◌≡◌, ◌≢◌, ℕ, ◌+◌, ◌≤◌, List, [], ◌∷◌, ◌++◌, map as each, refl, Option, None, Some}
use Rattle.std.proofs.Common.{sym, ◌∙◌, ap, subst, arith}
use Rattle.std.specs.List.Sorted.{IsStrictlySortedBy}
use Rattle.std.specs.Ordering.{nat_cmp}
use Rattle.std.specs.Cmp.{nat_cmp_total as total}
use Rattle.std.specs.Cmp.Lexicographic.{slice_cmp}
use Rattle.std.specs.FinMap as map
use Rattle.std.specs.FinMap.{nat_cmp-IsAntisymmetric as exact}
use Rattle.std.specs.FinSet as set
use Rattle.hypertrie_model.specs.FoldLaws.{part, sum_over-split}
use Rattle.hypertrie_model.specs.IdSets.{IdSet}
use Rattle.hypertrie_model.specs.MapLaws.{same_maps, get-remove_here, get-remove_other}
use Rattle.hypertrie_model.specs.Changes.{after}
use Rattle.trie_depth.specs.declared.id.Id.{Id}
use Rattle.edge_map.specs.declared.edge.Edge.{Edge}
use Rattle.edge_map.specs.Edges.{Edges, change, changed}
use Rattle.trie_node.specs.Sets.{leads, edges_in}
use Rattle.trie_context.specs.declared.tables.Tables.{Tables}
use Rattle.trie_context.specs.FitEdges.{set_at, StandsAt, option_leads}
use Rattle.trie_context.specs.Holds.{holds_of, at_depth}
use Rattle.trie_context.specs.MoveLaws.{if_same, if_other, same_or_not, at_here}
use Rattle.change_log.specs.declared.step.Step.{Step}
use Rattle.change_log.specs.Log.{edge_hold}
use Rattle.change_log.specs.Logged.{IsLogged}
use Rattle.change_log.specs.Laws.{logged_on, others_stand, keeps_more}
use Rattle.trie_change.specs.declared.change.Change.{Change}
use Rattle.trie_change.specs.After.{map_hold}
use Rattle.trie_change.specs.Changes.{grows}
use Rattle.trie_change.specs.Rooms.{AllFit}
use Rattle.trie_change.specs.RunLaws as runs
use Rattle.trie_change.specs.RunLaws.{ChangesBelow, below_weaker, change_here, change_other, changed_here, changed_other, changed_above}

-- edges of a changed map

part_is : (k r : ℕ) (o : Option Edge) → part (λ _ e. leads e r) k o ≡ option_leads o r
part_is k r None = refl
part_is k r (Some e) = refl

edges_split : (m : Edges) (k r : ℕ) → edges_in m r ≡ option_leads (map.get m k) r + edges_in (map.remove m k) r
edges_split m k r = sum_over-split total exact m (λ _ e. leads e r) k ∙ ap (λ n. n + edges_in (map.remove m k) r) (part_is k r (map.get m k))

remove_change : (m : Edges) (k : ℕ) (o : Option Edge) → map.remove (change m k o) k ≡ map.remove m k
remove_change m k o = same_maps total exact _ _ (λ q. same_or_not q k (map.get (map.remove (change m k o) k) q ≡ map.get (map.remove m k) q)
    (λ is. ap (map.get (map.remove (change m k o) k)) is ∙ get-remove_here total exact (change m k o) k ∙ sym (ap (map.get (map.remove m k)) is ∙ get-remove_here total exact m k))
    (λ ne. get-remove_other total exact (change m k o) k q ne ∙ change_other m k o q ne ∙ sym (get-remove_other total exact m k q ne)))

edges_change : (m : Edges) (k : ℕ) (o : Option Edge) (r : ℕ) → edges_in (change m k o) r + option_leads (map.get m k) r ≡ edges_in m r + option_leads o r
edges_change m k o r =
    let here : option_leads (map.get (change m k o) k) r ≡ option_leads o r = ap (λ e. option_leads e r) (change_here m k o) in
    let rest : edges_in (map.remove (change m k o) k) r ≡ edges_in (map.remove m k) r = ap (λ n. edges_in n r) (remove_change m k o) in
    omega (arith, edges_split (change m k o) k r, edges_split m k r, here, rest)

changed_push : (m : Edges) (cs : List (Id × Option Edge)) (c : Id × Option Edge) → ChangesBelow c.0.0 cs → changed m (cs ++ c ∷ []) ≡ change (changed m cs) c.0.0 c.1
changed_push m cs c below = same_maps total exact _ _ (λ q. same_or_not q c.0.0 (map.get (changed m (cs ++ c ∷ [])) q ≡ map.get (change (changed m cs) c.0.0 c.1) q)
    (λ is. ap (map.get (changed m (cs ++ c ∷ []))) is ∙ changed_here m cs c below ∙ sym (ap (map.get (change (changed m cs) c.0.0 c.1)) is ∙ change_here (changed m cs) c.0.0 c.1))
    (λ ne. changed_other m cs c q ne ∙ sym (change_other (changed m cs) c.0.0 c.1 q ne)))

edges_pushed : (m : Edges) (cs : List (Id × Option Edge)) (c : Id × Option Edge) → ChangesBelow c.0.0 cs → (r : ℕ) → edges_in (changed m (cs ++ c ∷ [])) r + option_leads (map.get m c.0.0) r ≡ edges_in (changed m cs) r + option_leads c.1 r
edges_pushed m cs c below r =
    let is : edges_in (changed m (cs ++ c ∷ [])) r ≡ edges_in (change (changed m cs) c.0.0 c.1) r = ap (λ n. edges_in n r) (changed_push m cs c below) in
    let old : option_leads (map.get (changed m cs) c.0.0) r ≡ option_leads (map.get m c.0.0) r = ap (λ e. option_leads e r) (changed_above m cs c.0.0 below) in
    omega (arith, edges_change (changed m cs) c.0.0 c.1 r, is, old)

pub one_edge : (m : Edges) (k r : ℕ) → option_leads (map.get m k) r ≤ edges_in m r
one_edge m k r = omega (arith, edges_split m k r)

two_edges : (m : Edges) (k q r : ℕ) → q ≢ k → option_leads (map.get m q) r + option_leads (map.get m k) r ≤ edges_in m r
two_edges m k q r ne =
    let is : option_leads (map.get (map.remove m k) q) r ≡ option_leads (map.get m q) r = ap (λ e. option_leads e r) (get-remove_other total exact m k q ne) in
    omega (arith, edges_split m k r, one_edge (map.remove m k) q r, is)

-- numbers at the rows of one depth

at_both : (d : ℕ) (a b c f : ℕ → ℕ) → ((r : ℕ) → a r + b r ≡ c r + f r) → (e r : ℕ) → at_depth d a e r + at_depth d b e r ≡ at_depth d c e r + at_depth d f e r
at_both d a b c f same e r = same_or_not e d _
    (λ is. omega (arith, if_same e d (a r) 0 is, if_same e d (b r) 0 is, if_same e d (c r) 0 is, if_same e d (f r) 0 is, same r))
    (λ ne. omega (arith, if_other e d (a r) 0 ne, if_other e d (b r) 0 ne, if_other e d (c r) 0 ne, if_other e d (f r) 0 ne))

at_less : (d : ℕ) (a b : ℕ → ℕ) → ((r : ℕ) → a r ≤ b r) → (e r : ℕ) → at_depth d a e r ≤ at_depth d b e r
at_less d a b less e r = same_or_not e d _
    (λ is. omega (arith, if_same e d (a r) 0 is, if_same e d (b r) 0 is, less r))
    (λ ne. omega (arith, if_other e d (a r) 0 ne, if_other e d (b r) 0 ne))

module _ {E : Type 0} (key : E → ℕ) (behind : E → List ℕ) (mixed : ℕ → ℕ → ℕ → ℕ → ℕ) (change : Change) (d : ℕ) (t0 : Tables) (old : Edges) (all : List E) (fits : AllFit t0 d old)
    (order : IsStrictlySortedBy (slice_cmp nat_cmp) (runs.tuples key behind all)) (held : (r : ℕ) → edges_in old r ≤ holds_of t0 d r) (before : List Step) where
  -- the edges of the changed map are in hand in place of the old map's
  abbrev pub AreInHand : Tables → List (Id × Option Edge) → List Step → ℕ → Type 0
  AreInHand t cs log most = IsLogged mixed t0 t before log (map_hold d (changed old cs)) (map_hold d old) most

  module _ (t : Tables) (rest : List E) (cs : List (Id × Option Edge)) (so_far : runs.AreDone key behind change d t0 old all t rest cs) (log : List Step) (most : ℕ) (in_hand : AreInHand t cs log most)
      (k : Id) (run others : List E) (cut : runs.IsCut key behind rest k.0 run others) where
    map_held : (r : ℕ) → edges_in (changed old cs) r ≤ holds_of t d r
    map_held r = omega (arith, in_hand.holds d r, keeps_more mixed t0 t before log in_hand.grew d r, at_here d (edges_in (changed old cs)) r, at_here d (edges_in old) r, held r)

    below : ChangesBelow k.0 cs
    below = below_weaker so_far.bound k.0 (runs.low key behind change d t0 old all fits order t rest cs so_far k run others cut) cs so_far.under

    edge_is : map.get (changed old cs) k.0 ≡ map.get old k.0
    edge_is = changed_above old cs k.0 below

    -- the old edge under the key is in hand
    pub edge_held : (r : ℕ) → option_leads (map.get old k.0) r ≤ holds_of t d r
    edge_held r =
        let same : option_leads (map.get (changed old cs) k.0) r ≡ option_leads (map.get old k.0) r = ap (λ e. option_leads e r) edge_is in
        omega (arith, one_edge (changed old cs) k.0 r, map_held r, same)

    module _ (u : Tables) (later : List Step) (e : Option Edge) (more : ℕ) (now : IsLogged mixed t u log later (edge_hold d e) (edge_hold d (map.get old k.0)) more)
        (stands : StandsAt u d (after (grows change) (set_at t d (map.get old k.0)) (set.from_list (each behind run))) e) (new : List (Id × Option Edge)) (is : new ≡ cs ++ (k, e) ∷ []) where
      pub still : (q : ℕ) → q ≢ k.0 → (S : IdSet) → StandsAt t d S (map.get (changed old cs) q) → StandsAt u d S (map.get (changed old cs) q)
      still q ne S there = others_stand mixed t u (edge_hold d (map.get old k.0)) now.stay d S (map.get (changed old cs) q) there (λ r.
          let same : option_leads (map.get (changed old cs) k.0) r ≡ option_leads (map.get old k.0) r = ap (λ e. option_leads e r) edge_is in
          omega (arith, two_edges (changed old cs) k.0 q r ne, map_held r, same, at_here d (option_leads (map.get old k.0)) r))

      -- the run is done
      abbrev pub done_step : runs.AreDone key behind change d t0 old all u others new
      done_step = runs.step key behind change d t0 old all fits order t rest cs so_far k run others cut u e still stands new is

      pub hand_step : (whole : ℕ) → most + more ≤ whole → AreInHand u new later whole
      hand_step whole room = subst (λ c. AreInHand u c later whole) (sym is)
          (logged_on mixed t0 t u before log later (map_hold d (changed old cs)) (map_hold d old) (edge_hold d e) (edge_hold d (map.get old k.0)) most more in_hand now
          (map_hold d (changed old (cs ++ (k, e) ∷ []))) (map_hold d old) whole
          (λ f r. omega (arith, at_both d (edges_in (changed old (cs ++ (k, e) ∷ []))) (option_leads (map.get old k.0)) (edges_in (changed old cs)) (option_leads e) (edges_pushed old cs (k, e) below) f r))
          (λ f r. omega arith)
          (at_less d (option_leads e) (edges_in (changed old (cs ++ (k, e) ∷ []))) (λ r.
          let there : option_leads (map.get (changed old (cs ++ (k, e) ∷ [])) k.0) r ≡ option_leads e r = ap (λ o. option_leads o r) (changed_here old cs (k, e) below) in
          omega (arith, one_edge (changed old (cs ++ (k, e) ∷ [])) k.0 r, there)))
          room)
