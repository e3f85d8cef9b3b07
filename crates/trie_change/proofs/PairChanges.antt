-- A set of pairs changed: its edges at both positions in hand, and the row made of them.
use Rattle.std.specs.Prelude.{◌≡◌, ℕ, ◌+◌, ◌≤◌, refl, List, Option, None, Some}
use Rattle.std.proofs.Common.{sym, ◌∙◌, ap, subst, arith}
use Rattle.std.specs.FinSet as set
use Rattle.hypertrie_model.specs.IdSets.{IdSet}
use Rattle.hypertrie_model.specs.Sets.{HasDepth}
use Rattle.hypertrie_model.specs.Changes.{after}
use Rattle.trie_depth.specs.declared.id.Trip.{Trip}
use Rattle.edge_map.specs.declared.edge.Edge.{Edge}
use Rattle.edge_map.specs.declared.edge.Edge.TheVariants.{Node as ToRow}
use Rattle.edge_map.specs.Edges.{Edges}
use Rattle.trie_node.specs.declared.node.Node.{Node}
use Rattle.trie_node.specs.Sets.{set_hash, leads, edges_in, edges_of}
use Rattle.trie_context.specs.declared.tables.Tables.{Tables}
use Rattle.trie_context.specs.Rows.{node_of, set_of}
use Rattle.trie_context.specs.Holds.{holds_of, one_at, at_depth, nothing, RowsStay}
use Rattle.trie_context.specs.Kept.{AreKept, AreMoved}
use Rattle.trie_context.specs.MoveLaws.{moved_as, moved_on, at_none, at_same, at_sum, rows_stay_on}
use Rattle.trie_context.specs.FitEdges.{set_at, StandsAt, option_leads}
use Rattle.trie_change.specs.declared.change.Change.{Change}
use Rattle.trie_change.specs.Changes.{grows}
use Rattle.trie_change.specs.Batches.{set_of_entries, trip_rest}
use Rattle.trie_change.specs.Rooms.{FitsSome, AreSlicesAt}
use Rattle.trie_change.specs.Nodes.{ArePairParts, IsPairNodeOf}
use Rattle.trie_change.specs.DepthLaws.{edge_deep, after_deep, trip_rest_deep}
use Rattle.trie_change.specs.HandLaws.{leads_once, set_at_stays, slices_stay, row_stands, hand_held, given_back}

-- the edges of both positions
abbrev pub both_lead : Edges → Edges → ℕ → ℕ
both_lead a b r = edges_in a r + edges_in b r

-- the edges at both positions of the set are in hand
pub record AreBoth (mixed : ℕ → ℕ → ℕ → ℕ → ℕ) (t u : Tables) (G : IdSet) (a b : Edges) : Type 0 where
  pub first : AreSlicesAt u 1 G 0 a
  pub second : AreSlicesAt u 1 G 1 b
  pub moved : AreMoved mixed t u (at_depth 1 (both_lead a b)) nothing
  pub stay : RowsStay t u

module _ (mixed : ℕ → ℕ → ℕ → ℕ → ℕ) (t : Tables) (kept : AreKept mixed t) where
  -- first those of one position, then those of the other
  pub both : (m u : Tables) (change : Change) (old : Option Edge) → FitsSome t 2 old → (B : IdSet) (a b : Edges)
      → AreSlicesAt m 1 (after (grows change) (set_at t 2 old) B) 0 a → AreMoved mixed t m (at_depth 1 (edges_in a)) nothing → RowsStay t m
      → AreSlicesAt u 1 (after (grows change) (set_at m 2 old) B) 1 b → AreMoved mixed m u (at_depth 1 (edges_in b)) nothing → RowsStay m u
      → AreBoth mixed t u (after (grows change) (set_at t 2 old) B) a b
  both m u change old fits B a b first moved stay second moved2 stay2 = record {
    first = slices_stay mixed m u moved.kept stay2 1 _ 0 a first;
    second = subst (λ S. AreSlicesAt u 1 (after (grows change) S B) 1 b) (set_at_stays mixed t m kept stay 2 old fits) second;
    moved = moved_on moved moved2 (at_depth 1 (both_lead a b)) nothing (λ d r. let e = at_sum 1 (both_lead a b) (edges_in a) (edges_in b) (λ r. refl) d r in omega arith);
    stay = rows_stay_on t m u stay stay2;
  }

  -- the changed set has depth two
  pub changed_deep : (change : Change) (old : Option Edge) → FitsSome t 2 old → (run : List Trip) → HasDepth 2 (after (grows change) (set_at t 2 old) (set_of_entries trip_rest run))
  changed_deep change old fits run = after_deep 2 (grows change) (set_at t 2 old) (set_of_entries trip_rest run) (edge_deep mixed t kept 2 old fits) (trip_rest_deep run)

  module _ (u : Tables) (G : IdSet) (a b : Edges) (made : AreBoth mixed t u G a b) where
    module _ (s h : ℕ) (deep : HasDepth 2 G) (sized : s ≡ set.len G) (hashed : h ≡ set_hash mixed 2 G) where
      pub pair_parts : ArePairParts mixed (set_of u 1) G s h a b
      pair_parts = record { deep = deep; sized = sized; hashed = hashed; first = made.first; second = made.second }

    module _ (node : Node) (is : IsPairNodeOf mixed (set_of u 1) G a b node) where
      -- the node's edges are held
      pub node_held : (r : ℕ) → edges_of node r ≤ holds_of u 1 r
      node_held r = let e = is.edges r in let h = hand_held 1 (both_lead a b) made.moved r in omega arith

      -- they are given up
      pub node_given : (v : Tables) → AreMoved mixed u v nothing (at_depth 1 (edges_of node)) → RowsStay v u → v ≡ t
      node_given v given came = given_back mixed t u v kept 1 (both_lead a b) (edges_of node) made.moved made.stay given came is.edges

      -- the row of the node
      module _ (v : Tables) (k : ℕ) (at : node_of v 2 k ≡ Some node) (stay : RowsStay u v) where
        pub row_is : set_of v 2 k ≡ G
        row_is = row_stands mixed u v made.moved.kept stay 1 k node at node_held ∙ is.stands

        pub edge_stands : 1 ≤ set.len G → (e : Edge) → e ≡ ToRow k → StandsAt v 2 G (Some e)
        edge_stands some e leads = subst (λ f. StandsAt v 2 G (Some f)) (sym leads) (subst (λ S. 1 ≤ set.len S) (sym row_is) some, row_is)

        pub edge_moved : AreMoved mixed u v (at_depth 2 (one_at k)) (at_depth 1 (edges_of node)) → (e : Edge) → e ≡ ToRow k → AreMoved mixed t v (at_depth 2 (option_leads (Some e))) nothing
        edge_moved moved e leads = moved_on made.moved moved (at_depth 2 (option_leads (Some e))) nothing (λ d r.
            let given = at_same 1 (edges_of node) (both_lead a b) is.edges d r in
            let gained = at_same 2 (option_leads (Some e)) (one_at k) (λ r. ap (λ f. option_leads (Some f) r) leads ∙ leads_once k r) d r in
            omega arith)
