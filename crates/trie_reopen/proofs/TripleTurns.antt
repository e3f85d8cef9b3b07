-- The row of a graph opened, and its three maps changed one after the other.
use Rattle.std.specs.Prelude.{◌≡◌, ℕ, ◌+◌, ◌≤◌, List, refl, Some}
use Rattle.std.proofs.Common.{sym, arith}
use Rattle.std.specs.Ordering.{nat_cmp}
use Rattle.hypertrie_model.specs.Changes.{after, IsChange}
use Rattle.hypertrie_model.specs.IdSets.{IdSet}
use Rattle.hypertrie_model.specs.Slices.{slice}
use Rattle.trie_depth.specs.declared.id.Trip.{Trip}
use Rattle.trie_depth.specs.Tuples.{trip_tuple}
use Rattle.edge_map.specs.Edges.{Edges}
use Rattle.trie_node.specs.declared.node.Node.{Node}
use Rattle.trie_node.specs.Sets.{edges_in, edges_of}
use Rattle.trie_context.specs.declared.root.Root.{Root}
use Rattle.trie_context.specs.declared.tables.Tables.{Tables}
use Rattle.trie_context.specs.Rows.{node_of, set_of}
use Rattle.trie_context.specs.Holds.{holds_of, one_at, at_depth}
use Rattle.trie_context.specs.MoveLaws.{at_other, at_same}
use Rattle.trie_context.specs.Roots.{root_hold}
use Rattle.change_log.specs.declared.step.Step.{Step}
use Rattle.change_log.specs.Logged.{IsLogged}
use Rattle.change_log.specs.Laws.{logged_as, logged_on}
use Rattle.trie_change.specs.declared.change.Change.{Change}
use Rattle.trie_change.specs.Batches.{set_of_entries}
use Rattle.trie_change.specs.Changes.{grows}
use Rattle.trie_change.specs.PairLaws.{slices_after, changes_of}
use Rattle.trie_change.specs.Premises.{MayChangeMap}
use Rattle.trie_change.specs.Batches.{AreInOrder}
use Rattle.trie_change.specs.Rooms.{AreSlicesAt, AreChanged}
use Rattle.trie_reopen.proofs.OwnMaps.{slices_below, slices_fit}
use Rattle.trie_reopen.proofs.Turns.{InThree, three_held, turn_three}

-- a hold on a row of triples is none on a row of pairs
pub triples_apart : (row r : ℕ) → at_depth 3 (one_at row) 2 r ≡ 0
triples_apart row r = at_other 3 (one_at row) 2 r (λ is. omega arith)

-- the maps in hand, in place of the hold on the row
abbrev pub Maps : (ℕ → ℕ → ℕ → ℕ → ℕ) → Tables → List Step → ℕ → Tables → List Step → IdSet → ℕ → Edges → IdSet → ℕ → Edges → IdSet → ℕ → Edges → ℕ → Type 0
Maps mixed t0 l0 row t log G i x F j y E k z most = InThree mixed 2 t0 l0 (at_depth 3 (one_at row)) (triples_apart row) t log G i x F j y E k z most

module _ (mixed : ℕ → ℕ → ℕ → ℕ → ℕ) (t0 : Tables) (l0 : List Step) (row : ℕ) where
  -- the row is opened
  pub starts : (a b c : Edges) → AreSlicesAt t0 2 (set_of t0 3 row) 0 a → AreSlicesAt t0 2 (set_of t0 3 row) 1 b → AreSlicesAt t0 2 (set_of t0 3 row) 2 c
      → ((n : Node) → node_of t0 3 row ≡ Some n → (r : ℕ) → edges_in a r + (edges_in b r + edges_in c r) ≡ edges_of n r)
      → (t1 : Tables) (l1 : List Step) → (n : Node) × (node_of t0 3 row ≡ Some n) × IsLogged mixed t0 t1 l0 l1 (at_depth 2 (edges_of n)) (at_depth 3 (one_at row)) 0 → ((r : ℕ) → set_of t1 2 r ≡ set_of t0 2 r)
      → Maps mixed t0 l0 row t1 l1 (set_of t0 3 row) 0 a (set_of t0 3 row) 1 b (set_of t0 3 row) 2 c 0
  starts a b c first second third edges t1 l1 opened below = record {
    logged = logged_as mixed t0 t1 l0 l1 (at_depth 2 (edges_of opened.0)) (at_depth 3 (one_at row)) 0 opened.2 (at_depth 2 (λ r. edges_in a r + (edges_in b r + edges_in c r))) (at_depth 3 (one_at row)) 0
        (at_same 2 (edges_of opened.0) (λ r. edges_in a r + (edges_in b r + edges_in c r)) (λ r. sym (edges opened.0 opened.1 r))) (λ e r. refl) (omega arith);
    one = slices_below t0 t1 2 below (set_of t0 3 row) 0 a first;
    two = slices_below t0 t1 2 below (set_of t0 3 row) 1 b second;
    three = slices_below t0 t1 2 below (set_of t0 3 row) 2 c third;
  }

  module _ (change : Change) (t : Tables) (log : List Step) (H B : IdSet) (i : ℕ) (x : Edges) (F : IdSet) (j : ℕ) (y : Edges) (E : IdSet) (k : ℕ) (z : Edges) (most : ℕ) (s : Maps mixed t0 l0 row t log H i x F j y E k z most) where
    -- the map that comes first is held, and may be changed
    pub first_held : (r : ℕ) → edges_in x r ≤ holds_of t 2 r
    first_held r = omega (arith, three_held mixed 2 t0 l0 (at_depth 3 (one_at row)) (triples_apart row) t log H i x F j y most E k z s r)

    pub may_change : (entries : List Trip) → ((q : ℕ) → slice nat_cmp (set_of_entries trip_tuple entries) 0 q ≡ slice nat_cmp B i q) → AreInOrder trip_tuple entries → IsChange (grows change) H B → MayChangeMap change t 2 trip_tuple x entries
    may_change entries turned order may = record {
      fits = slices_fit t 2 H i x s.one;
      order = order;
      change = changes_of change t 2 H B i x (set_of_entries trip_tuple entries) may s.one turned;
    }

    -- it is changed
    pub changes_one : (P : IdSet) → ((q : ℕ) → slice nat_cmp P 0 q ≡ slice nat_cmp B i q) → (u : Tables) (later : List Step) (x2 : Edges) (more : ℕ) → IsLogged mixed t u log later (at_depth 2 (edges_in x2)) (at_depth 2 (edges_in x)) more
        → AreChanged change t u 2 x P x2 → (whole : ℕ) → most + more ≤ whole → Maps mixed t0 l0 row u later F j y E k z (after (grows change) H B) i x2 whole
    changes_one P turned u later x2 more now changed whole room =
        turn_three mixed 2 t0 l0 (at_depth 3 (one_at row)) (triples_apart row) t log H i x F j y most E k z s u later x2 more now (after (grows change) H B) (slices_after change t 2 H B i x P u s.one turned x2 changed) whole room

  module _ (t : Tables) (log : List Step) (G : IdSet) (x y z : Edges) (most : ℕ) (s : Maps mixed t0 l0 row t log G 0 x G 1 y G 2 z most) where
    -- the edges of a node with these maps are held
    pub node_held : (node : Node) → ((r : ℕ) → edges_of node r ≡ edges_in x r + (edges_in y r + edges_in z r)) → (r : ℕ) → edges_of node r ≤ holds_of t 2 r
    node_held node is r = omega (arith, three_held mixed 2 t0 l0 (at_depth 3 (one_at row)) (triples_apart row) t log G 0 x G 1 y most G 2 z s r, is r)

    -- the node's row has the hold
    pub stored : (node : Node) → ((r : ℕ) → edges_of node r ≡ edges_in x r + (edges_in y r + edges_in z r)) → (u : Tables) (later : List Step) (root : Root) (more : ℕ) → IsLogged mixed t u log later (root_hold root) (at_depth 2 (edges_of node)) more
        → (whole : ℕ) → most + more ≤ whole → IsLogged mixed t0 u l0 later (root_hold root) (at_depth 3 (one_at row)) whole
    stored node is u later root more now whole room = logged_on mixed t0 t u l0 log later (at_depth 2 (λ r. edges_in x r + (edges_in y r + edges_in z r))) (at_depth 3 (one_at row)) (root_hold root) (at_depth 2 (edges_of node)) most more s.logged now
        (root_hold root) (at_depth 3 (one_at row)) whole
        (λ f r. omega (arith, at_same 2 (edges_of node) (λ r. edges_in x r + (edges_in y r + edges_in z r)) is f r)) (λ f r. omega arith) (λ f r. omega arith) room
