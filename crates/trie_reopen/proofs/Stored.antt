-- A changed node stored: its row stands for its set, and has its hold.
use Rattle.std.specs.Prelude.{◌≡◌, ℕ, ◌≤◌, List, ◌∷◌, Option, None, Some, refl}
use Rattle.std.proofs.Common.{sym, ◌∙◌, ap, subst, arith}
use Rattle.std.specs.FinSet as set
use Rattle.edge_map.specs.declared.edge.Edge.{Edge}
use Rattle.edge_map.specs.declared.edge.Edge.TheVariants.{Node as ToRow}
use Rattle.trie_node.specs.declared.node.Node.{Node}
use Rattle.trie_node.specs.Sets.{leads, edges_of}
use Rattle.trie_context.specs.declared.tables.Tables.{Tables}
use Rattle.trie_context.specs.FitEdges.{StandsAt, option_leads}
use Rattle.trie_context.specs.Holds.{holds_of, one_at, at_depth}
use Rattle.trie_context.specs.Interned.{IsInterned}
use Rattle.trie_context.specs.Kept.{AreKept}
use Rattle.trie_context.specs.MoveLaws.{at_same, leads_one, zero_at}
use Rattle.trie_context.specs.NodeLaws.{interned_set}
use Rattle.trie_context.specs.Rows.{node_set, set_of}
use Rattle.change_log.specs.declared.step.RowStep.TheVariants.{Made, Found}
use Rattle.change_log.specs.declared.step.Step.{Step}
use Rattle.change_log.specs.declared.step.Step.TheVariants.{Pairs, Triples}
use Rattle.change_log.specs.Log.{edge_hold}
use Rattle.change_log.specs.Logged.{IsLogged}
use Rattle.change_log.specs.Laws.{logged_interned, logged_as}

-- an edge to a row has one hold on it
pub edge_one : (d row : ℕ) (e : Edge) → e ≡ ToRow row → (f r : ℕ) → at_depth d (one_at row) f r ≡ edge_hold d (Some e) f r
edge_one d row e is = at_same d (one_at row) (option_leads (Some e)) (λ r. sym (ap (λ e. leads e r) is ∙ leads_one row r))

module _ (mixed : ℕ → ℕ → ℕ → ℕ → ℕ) (t u : Tables) (kept : AreKept mixed t) (log : List Step) (node : Node) (row : ℕ) where
  -- the row of pairs
  pub pairs_stand : (back : Option Node) → IsInterned mixed t u 2 node row back → ((r : ℕ) → edges_of node r ≤ holds_of t 1 r) → 1 ≤ set.len (node_set 2 (set_of t 1) node) → (e : Edge) → e ≡ ToRow row → StandsAt u 2 (node_set 2 (set_of t 1) node) (Some e)
  pairs_stand back interned held filled e leads =
      let is = interned_set mixed t kept u interned.stay node 1 row held interned.there in
      subst (λ f. StandsAt u 2 (node_set 2 (set_of t 1) node) (Some f)) (sym leads) (subst (λ S. 1 ≤ set.len S) (sym is) filled, is)

  module _ (later : List Step) (e : Edge) (leads : e ≡ ToRow row) where
    pub pairs_made : IsInterned mixed t u 2 node row None → later ≡ Pairs (Made row) ∷ log → IsLogged mixed t u log later (edge_hold 2 (Some e)) (at_depth 1 (edges_of node)) 1
    pairs_made interned is = subst (λ l. IsLogged mixed t u log l (edge_hold 2 (Some e)) (at_depth 1 (edges_of node)) 1) (sym is)
        (logged_as mixed t u log (Pairs (Made row) ∷ log) (at_depth 2 (one_at row)) (at_depth 1 (edges_of node)) 1
        (logged_interned mixed t u log (Pairs (Made row)) kept (node, interned) 2 node row None (at_depth 1 (edges_of node)) interned (λ f r. omega (arith, interned.moved.holds f r)))
        (edge_hold 2 (Some e)) (at_depth 1 (edges_of node)) 1 (edge_one 2 row e leads) (λ f r. refl) (omega arith))

    pub pairs_found : (same : Node) → IsInterned mixed t u 2 node row (Some same) → later ≡ Pairs (Found row same) ∷ log → IsLogged mixed t u log later (edge_hold 2 (Some e)) (at_depth 1 (edges_of node)) 1
    pairs_found same interned is =
        let own : same ≡ node = interned.came.0 in
        let did : IsInterned mixed t u 2 same row (Some same) = subst (λ n. IsInterned mixed t u 2 n row (Some same)) (sym own) interned in
        subst (λ l. IsLogged mixed t u log l (edge_hold 2 (Some e)) (at_depth 1 (edges_of node)) 1) (sym is)
        (logged_as mixed t u log (Pairs (Found row same) ∷ log) (at_depth 2 (one_at row)) (at_depth 1 (edges_of node)) 1
        (logged_interned mixed t u log (Pairs (Found row same)) kept did 2 node row (Some same) (at_depth 1 (edges_of node)) interned (λ f r.
        omega (arith, interned.moved.holds f r, at_same 1 (edges_of same) (edges_of node) (λ r. ap (λ n. edges_of n r) own) f r, zero_at 1 f r)))
        (edge_hold 2 (Some e)) (at_depth 1 (edges_of node)) 1 (edge_one 2 row e leads) (λ f r. refl) (omega arith))

-- the same of a node of depth three, whose root has the hold
module _ (mixed : ℕ → ℕ → ℕ → ℕ → ℕ) (t u : Tables) (kept : AreKept mixed t) (log : List Step) (node : Node) (row : ℕ) where
  pub triples_stand : (back : Option Node) → IsInterned mixed t u 3 node row back → ((r : ℕ) → edges_of node r ≤ holds_of t 2 r) → set_of u 3 row ≡ node_set 3 (set_of t 2) node
  triples_stand back interned held = interned_set mixed t kept u interned.stay node 2 row held interned.there

  module _ (later : List Step) where
    pub triples_made : IsInterned mixed t u 3 node row None → later ≡ Triples (Made row) ∷ log → IsLogged mixed t u log later (at_depth 3 (one_at row)) (at_depth 2 (edges_of node)) 1
    triples_made interned is = subst (λ l. IsLogged mixed t u log l (at_depth 3 (one_at row)) (at_depth 2 (edges_of node)) 1) (sym is)
        (logged_interned mixed t u log (Triples (Made row)) kept (node, interned) 3 node row None (at_depth 2 (edges_of node)) interned (λ f r. omega (arith, interned.moved.holds f r)))

    pub triples_found : (same : Node) → IsInterned mixed t u 3 node row (Some same) → later ≡ Triples (Found row same) ∷ log → IsLogged mixed t u log later (at_depth 3 (one_at row)) (at_depth 2 (edges_of node)) 1
    triples_found same interned is =
        let own : same ≡ node = interned.came.0 in
        let did : IsInterned mixed t u 3 same row (Some same) = subst (λ n. IsInterned mixed t u 3 n row (Some same)) (sym own) interned in
        subst (λ l. IsLogged mixed t u log l (at_depth 3 (one_at row)) (at_depth 2 (edges_of node)) 1) (sym is)
        (logged_interned mixed t u log (Triples (Found row same)) kept did 3 node row (Some same) (at_depth 2 (edges_of node)) interned (λ f r.
        omega (arith, interned.moved.holds f r, at_same 2 (edges_of same) (edges_of node) (λ r. ap (λ n. edges_of n r) own) f r, zero_at 2 f r)))
