use Rattle.std.proofs.Common.{◌∙◌, ◌∷◌, ap, sym, subst, refl, arith}
use Rattle.change_log.specs.declared.step.RowStep.TheVariants.{Replaced}
use Rattle.change_log.specs.declared.step.Step.TheVariants.{Pairs}
use Rattle.change_log.specs.Laws.{logged_replaced}
use Rattle.change_log.specs.Log.{edge_hold}
use Rattle.change_log.specs.Logged.{IsLogged}
use Rattle.trie_change.specs.After.{run_room}
use Rattle.trie_reopen.proofs.SharedLemmas.{copied}
use Rattle.trie_reopen.proofs.reopened.change_held_pairs.Goals as goal

pub returns-in_ok-new-in-None-clause-logged : goal.returns-in_ok-new-in-None-clause-logged
returns-in_ok-new-in-None-clause-logged g c =
    let t = c.args.context.now in
    let u = c.change_pairs.new.context in
    let log = c.args.log.now.steps in
    let old = c.args.old in
    let new = c.in_ok-new-in-None.new in
    let h = c.in_ok-new-in-None.ensures.held in
    let most = run_room c.args.run.now in
    subst (λ steps. IsLogged g.M.Mix.mixed t u log steps (edge_hold 2 new) (edge_hold 2 old) most) (sym (c.push.ensures ∙ ap (λ l. Pairs (Replaced old new) ∷ l) c.in_ok-reserve-in-None.ensures.same))
    (logged_replaced g.M.Mix.mixed t u log (Pairs (Replaced old new)) c.is_kept.ensures (h.moved, h.stay) 2 old new most h.moved h.stay h.counts (λ e r. refl))

pub returns-in_ok-new-in-None-clause-risen : goal.returns-in_ok-new-in-None-clause-risen
returns-in_ok-new-in-None-clause-risen g c d r deep = omega (arith, c.in_ok-new-in-None.ensures.held.moved.holds d r)

pub returns-in_ok-new-in-None-clause-retained : goal.returns-in_ok-new-in-None-clause-retained
returns-in_ok-new-in-None-clause-retained g c G H shared =
    omega (arith, c.change_pairs.ensures.retained, copied G H g.M.Mix.mixed c.args.context.now c.is_kept.ensures shared c.args.old c.requires.run.fits (c.in-None.ensures.others refl))

pub returns-in_err-new-in-None-clause-retained : goal.returns-in_err-new-in-None-clause-retained
returns-in_err-new-in-None-clause-retained g c G H shared =
    omega (arith, c.change_pairs.ensures.retained, copied G H g.M.Mix.mixed c.args.context.now c.is_kept.ensures shared c.args.old c.requires.run.fits (c.in-None.ensures.others refl))
