-- The row of a set of pairs opened, and its two maps changed one after the other.
use Rattle.std.specs.Prelude.{◌≡◌, ℕ, ◌+◌, ◌≤◌, List, refl, Option, None, Some}
use Rattle.std.proofs.Common.{sym, ◌∙◌, arith}
use Rattle.std.specs.Ordering.{nat_cmp}
use Rattle.std.specs.FinSet as set
use Rattle.hypertrie_model.specs.Changes.{after}
use Rattle.hypertrie_model.specs.IdSets.{IdSet}
use Rattle.hypertrie_model.specs.Sets.{empty}
use Rattle.hypertrie_model.specs.Slices.{slice}
use Rattle.trie_depth.specs.declared.id.Trip.{Trip}
use Rattle.edge_map.specs.declared.edge.Edge.{Edge}
use Rattle.edge_map.specs.declared.edge.Edge.TheVariants.{Node as ToRow}
use Rattle.edge_map.specs.Edges.{Edges}
use Rattle.trie_node.specs.declared.node.Node.{Node}
use Rattle.trie_node.specs.Sets.{edges_in, edges_of, set_hash}
use Rattle.trie_context.specs.declared.tables.Tables.{Tables}
use Rattle.trie_context.specs.Rows.{node_of, set_of}
use Rattle.trie_context.specs.FitEdges.{option_leads}
use Rattle.trie_context.specs.Holds.{holds_of, one_at, at_depth}
use Rattle.trie_context.specs.Kept.{AreKept}
use Rattle.trie_context.specs.MoveLaws.{at_none, at_other, at_same}
use Rattle.change_log.specs.declared.step.Step.{Step}
use Rattle.change_log.specs.Log.{edge_hold}
use Rattle.change_log.specs.Logged.{IsLogged}
use Rattle.change_log.specs.Laws.{logged_as, logged_on}
use Rattle.trie_change.specs.declared.change.Change.{Change}
use Rattle.trie_change.specs.Batches.{set_of_entries, trip_rest}
use Rattle.trie_change.specs.Changes.{grows}
use Rattle.trie_change.specs.DepthLaws.{after_deep, edge_deep, trip_rest_deep}
use Rattle.trie_change.specs.Nodes.{ArePairParts, IsPairNodeOf}
use Rattle.trie_change.specs.PairLaws.{slices_after}
use Rattle.trie_change.specs.Rooms.{FitsSome, AreSlicesAt, AreChanged}
use Rattle.trie_reopen.proofs.OwnMaps.{slices_below}
use Rattle.trie_reopen.proofs.Turns.{InTwo, two_held, turn_two}

-- a hold on a row of pairs is none on a row of keys
pub pairs_apart : (row r : ℕ) → at_depth 2 (one_at row) 1 r ≡ 0
pairs_apart row r = at_other 2 (one_at row) 1 r (λ is. omega arith)

-- the maps in hand, in place of the hold on the row
abbrev pub Maps : (ℕ → ℕ → ℕ → ℕ → ℕ) → Tables → List Step → ℕ → Tables → List Step → IdSet → ℕ → Edges → IdSet → ℕ → Edges → ℕ → Type 0
Maps mixed t0 l0 row t log G i x F j y most = InTwo mixed 1 t0 l0 (at_depth 2 (one_at row)) (pairs_apart row) t log G i x F j y most

module _ (mixed : ℕ → ℕ → ℕ → ℕ → ℕ) (t0 : Tables) (l0 : List Step) (row : ℕ) where
  -- the row is opened
  pub starts : (a b : Edges) → AreSlicesAt t0 1 (set_of t0 2 row) 0 a → AreSlicesAt t0 1 (set_of t0 2 row) 1 b → ((n : Node) → node_of t0 2 row ≡ Some n → (r : ℕ) → edges_in a r + edges_in b r ≡ edges_of n r)
      → (t1 : Tables) (l1 : List Step) → (n : Node) × (node_of t0 2 row ≡ Some n) × IsLogged mixed t0 t1 l0 l1 (at_depth 1 (edges_of n)) (at_depth 2 (one_at row)) 0 → ((r : ℕ) → set_of t1 1 r ≡ set_of t0 1 r)
      → Maps mixed t0 l0 row t1 l1 (set_of t0 2 row) 0 a (set_of t0 2 row) 1 b 0
  starts a b first second edges t1 l1 opened below = record {
    logged = logged_as mixed t0 t1 l0 l1 (at_depth 1 (edges_of opened.0)) (at_depth 2 (one_at row)) 0 opened.2 (at_depth 1 (λ r. edges_in a r + edges_in b r)) (at_depth 2 (one_at row)) 0
        (at_same 1 (edges_of opened.0) (λ r. edges_in a r + edges_in b r) (λ r. sym (edges opened.0 opened.1 r))) (λ e r. refl) (omega arith);
    one = slices_below t0 t1 1 below (set_of t0 2 row) 0 a first;
    two = slices_below t0 t1 1 below (set_of t0 2 row) 1 b second;
  }

  -- the map that comes first is changed
  pub changes_one : (change : Change) (t : Tables) (log : List Step) (H B : IdSet) (i : ℕ) (x : Edges) (F : IdSet) (j : ℕ) (y : Edges) (most : ℕ) → Maps mixed t0 l0 row t log H i x F j y most
      → (P : IdSet) → ((k : ℕ) → slice nat_cmp P 0 k ≡ slice nat_cmp B i k) → (u : Tables) (later : List Step) (x2 : Edges) (more : ℕ) → IsLogged mixed t u log later (at_depth 1 (edges_in x2)) (at_depth 1 (edges_in x)) more
      → AreChanged change t u 1 x P x2 → (whole : ℕ) → most + more ≤ whole → Maps mixed t0 l0 row u later F j y (after (grows change) H B) i x2 whole
  changes_one change t log H B i x F j y most s P turned u later x2 more now changed whole room =
      turn_two mixed 1 t0 l0 (at_depth 2 (one_at row)) (pairs_apart row) t log H i x F j y most s u later x2 more now (after (grows change) H B) (slices_after change t 1 H B i x P u s.one turned x2 changed) whole room

  -- both are held
  pub first_held : (t : Tables) (log : List Step) (G : IdSet) (i : ℕ) (x : Edges) (F : IdSet) (j : ℕ) (y : Edges) (most : ℕ) → Maps mixed t0 l0 row t log G i x F j y most → (r : ℕ) → edges_in x r ≤ holds_of t 1 r
  first_held t log G i x F j y most s r = omega (arith, two_held mixed 1 t0 l0 (at_depth 2 (one_at row)) (pairs_apart row) t log G i x F j y most s r)

  module _ (t : Tables) (log : List Step) (G : IdSet) (x y : Edges) (most : ℕ) (s : Maps mixed t0 l0 row t log G 0 x G 1 y most) where
    module _ (node : Node) (is : IsPairNodeOf mixed (set_of t 1) G x y node) where
      pub node_held : (r : ℕ) → edges_of node r ≤ holds_of t 1 r
      node_held r = omega (arith, two_held mixed 1 t0 l0 (at_depth 2 (one_at row)) (pairs_apart row) t log G 0 x G 1 y most s r, is.edges r)

      -- the node's row has the hold
      pub stored : (u : Tables) (later : List Step) (e : Option Edge) (more : ℕ) → IsLogged mixed t u log later (edge_hold 2 e) (at_depth 1 (edges_of node)) more → (whole : ℕ) → most + more ≤ whole
          → IsLogged mixed t0 u l0 later (edge_hold 2 e) (at_depth 2 (one_at row)) whole
      stored u later e more now whole room = logged_on mixed t0 t u l0 log later (at_depth 1 (λ r. edges_in x r + edges_in y r)) (at_depth 2 (one_at row)) (edge_hold 2 e) (at_depth 1 (edges_of node)) most more s.logged now
          (edge_hold 2 e) (at_depth 2 (one_at row)) whole
          (λ f r. omega (arith, at_same 1 (edges_of node) (λ r. edges_in x r + edges_in y r) is.edges f r)) (λ f r. omega arith) (λ f r. omega arith) room

-- the parts of the changed set
pub parts_are : (mixed : ℕ → ℕ → ℕ → ℕ → ℕ) (t0 : Tables) → AreKept mixed t0 → (change : Change) (row : ℕ) → FitsSome t0 2 (Some (ToRow row)) → (run : List Trip) (low : ℕ → IdSet) (size hash : ℕ) (x y : Edges)
    → size ≡ set.len (after (grows change) (set_of t0 2 row) (set_of_entries trip_rest run)) → hash ≡ set_hash mixed 2 (after (grows change) (set_of t0 2 row) (set_of_entries trip_rest run))
    → (t : Tables) → AreSlicesAt t 1 (after (grows change) (set_of t0 2 row) (set_of_entries trip_rest run)) 0 x → AreSlicesAt t 1 (after (grows change) (set_of t0 2 row) (set_of_entries trip_rest run)) 1 y
    → ArePairParts mixed (set_of t 1) (after (grows change) (set_of t0 2 row) (set_of_entries trip_rest run)) size hash x y
parts_are mixed t0 kept change row fits run low size hash x y sized hashed t first second = record {
  deep = after_deep 2 (grows change) (set_of t0 2 row) (set_of_entries trip_rest run) (edge_deep mixed t0 kept 2 (Some (ToRow row)) fits) (trip_rest_deep run);
  sized = sized;
  hashed = hashed;
  first = first;
  second = second;
}
