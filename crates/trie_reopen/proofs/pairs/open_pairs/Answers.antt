use Rattle.std.specs.Prelude.{◌⊎◌}
use Rattle.std.proofs.Common.{◌≡◌, ℕ, ◌∙◌, sym, subst, refl, arith, Some, None}
use Rattle.change_log.specs.declared.step.RowStep.TheVariants.{Opened}
use Rattle.change_log.specs.declared.step.Step.TheVariants.{Pairs}
use Rattle.change_log.specs.Laws.{logged_opened, pairs_out}
use Rattle.change_log.specs.Logged.{IsLogged}
use Rattle.edge_map.specs.declared.edge.Edge.TheVariants.{Node as ToRow}
use Rattle.trie_node.specs.Sets.{edges_of}
use Rattle.trie_context.specs.Holds.{one_at, at_depth}
use Rattle.trie_context.specs.Rows.{row_of, node_of}
use Rattle.trie_context.specs.MoveLaws.{at_other}
use Rattle.trie_reopen.proofs.pairs.open_pairs.Goals as goal

same_row : (m n : ℕ) → ToRow m ≡ ToRow n → n ≡ m
same_row m n is = cc

pub returns-clause-opened : goal.returns-clause-opened
returns-clause-opened g c =
    let t = c.args.context.now in
    let u = c.open.new.self in
    let log = c.args.log.now.steps in
    let place = c.in-Ok.place in
    let node = c.in-Ok.node in
    let o = c.in-Ok.ensures.opened in
    let own : place.number ≡ c.args.row = c.in-Ok.ensures.number ∙ same_row c.args.row c.of_edge.result c.of_edge.ensures in (
      node,
      subst (λ n. node_of t 2 n ≡ Some node) own o.was,
      subst (λ n. IsLogged g.M.Mix.mixed t u log c.push.new.self.steps (at_depth 1 (edges_of node)) (at_depth 2 (one_at n)) 0) own
          (subst (λ l. IsLogged g.M.Mix.mixed t u log l (at_depth 1 (edges_of node)) (at_depth 2 (one_at place.number)) 0) (sym c.push.ensures)
          (logged_opened g.M.Mix.mixed t u log (Pairs (Opened place node)) c.is_kept.ensures o 2 place node o
          (subst (λ v. (e r : ℕ) → (row_of v e r ≡ None) ⊎ (row_of v e r ≡ row_of t e r)) (sym o.gone) (pairs_out t place)) (λ e r. refl))),
    )

pub returns-clause-risen : goal.returns-clause-risen
returns-clause-risen g c d r deep =
    omega (arith, c.in-Ok.ensures.opened.moved.holds d r, at_other 1 (edges_of c.in-Ok.node) d r (λ is. omega (arith, deep, is)))
