use Rattle.std.proofs.Common.{◌∙◌, ◌∷◌, Some, None, ap, sym, subst, refl}
use Rattle.edge_map.specs.declared.edge.Edge.TheVariants.{Node as ToRow}
use Rattle.trie_context.specs.FitEdges.{option_leads}
use Rattle.trie_context.specs.MoveLaws.{at_none, counts_as_before, gained_none, rows_as_before}
use Rattle.change_log.specs.declared.step.RowStep.TheVariants.{Replaced}
use Rattle.change_log.specs.declared.step.Step.TheVariants.{Pairs}
use Rattle.change_log.specs.Laws.{logged_replaced}
use Rattle.change_log.specs.Log.{edge_hold}
use Rattle.change_log.specs.Logged.{IsLogged}
use Rattle.trie_reopen.proofs.reopened.leave_pairs.Goals as goal

pub returns-clause-logged : goal.returns-clause-logged
returns-clause-logged g c =
    let t = c.args.context.now in
    let log = c.args.log.now.steps in
    let old = Some (ToRow c.args.row) in
    let kept = c.is_kept.ensures in
    let moved = gained_none g.M.Mix.mixed t kept (edge_hold 2 None) (at_none 2 (option_leads None) (λ r. refl)) in
    let stay = rows_as_before t in
    subst (λ steps. IsLogged g.M.Mix.mixed t t log steps (edge_hold 2 None) (edge_hold 2 old) 0) (sym (c.push.ensures ∙ ap (λ l. Pairs (Replaced old None) ∷ l) c.in_ok-reserve.ensures.same))
    (logged_replaced g.M.Mix.mixed t t log (Pairs (Replaced old None)) kept (moved, stay) 2 old None 0 moved stay (counts_as_before t (λ _ _. 0)) (λ e r. refl))
