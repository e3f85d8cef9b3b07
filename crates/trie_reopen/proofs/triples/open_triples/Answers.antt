use Rattle.std.specs.Prelude.{◌⊎◌}
use Rattle.std.proofs.Common.{◌≡◌, ℕ, ◌+◌, ◌∙◌, ap, sym, subst, refl, Some, None}
use Rattle.change_log.specs.declared.step.RowStep.TheVariants.{Opened}
use Rattle.change_log.specs.declared.step.Step.TheVariants.{Triples}
use Rattle.change_log.specs.Laws.{logged_opened, triples_out}
use Rattle.change_log.specs.Logged.{IsLogged}
use Rattle.edge_map.specs.declared.edge.Edge.TheVariants.{Node as ToRow}
use Rattle.trie_node.specs.declared.node.Node.{Node}
use Rattle.trie_node.specs.Sets.{edges_of}
use Rattle.trie_context.specs.Holds.{one_at, at_depth}
use Rattle.trie_context.specs.Rows.{row_of, node_of}
use Rattle.trie_context.specs.Holds.{holds_of}
use Rattle.trie_reopen.proofs.triples.open_triples.Goals as goal

same_row : (m n : ℕ) → ToRow m ≡ ToRow n → n ≡ m
same_row m n is = cc

pub returns-clause-opened : goal.returns-clause-opened
returns-clause-opened g c =
    let t = c.args.context.now in
    let u = c.open.new.self in
    let log = c.args.log.now.steps in
    let place = c.in-Ok.place in
    let node = c.in-Ok.node in
    let o = c.in-Ok.ensures.opened in
    let own : place.number ≡ c.args.row = c.in-Ok.ensures.number ∙ same_row c.args.row c.of_edge.result c.of_edge.ensures in (
      node,
      subst (λ n. node_of t 3 n ≡ Some node) own o.was,
      subst (λ n. IsLogged g.M.Mix.mixed t u log c.push.new.self.steps (at_depth 2 (edges_of node)) (at_depth 3 (one_at n)) 0) own
          (subst (λ l. IsLogged g.M.Mix.mixed t u log l (at_depth 2 (edges_of node)) (at_depth 3 (one_at place.number)) 0) (sym c.push.ensures)
          (logged_opened g.M.Mix.mixed t u log (Triples (Opened place node)) c.is_kept.ensures o 3 place node o
          (subst (λ v. (e r : ℕ) → (row_of v e r ≡ None) ⊎ (row_of v e r ≡ row_of t e r)) (sym o.gone) (triples_out t place)) (λ e r. refl))),
    )

same_node : (n m : Node) → Some n ≡ Some m → n ≡ m
same_node n m is = cc

pub returns-clause-holds : goal.returns-clause-holds
returns-clause-holds g c n at d r =
    let t = c.args.context.now in
    let u = c.open.new.self in
    let o = c.in-Ok.ensures.opened in
    let own : c.in-Ok.place.number ≡ c.args.row = c.in-Ok.ensures.number ∙ same_row c.args.row c.of_edge.result c.of_edge.ensures in
    let is : c.in-Ok.node ≡ n = same_node c.in-Ok.node n (sym o.was ∙ ap (node_of t 3) own ∙ at) in
    subst (λ m. holds_of u d r + at_depth 3 (one_at m) d r ≡ holds_of t d r + at_depth 2 (edges_of n) d r) own
    (subst (λ n. holds_of u d r + at_depth 3 (one_at c.in-Ok.place.number) d r ≡ holds_of t d r + at_depth 2 (edges_of n) d r) is (o.moved.holds d r))
