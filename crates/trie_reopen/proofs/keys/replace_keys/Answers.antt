use Rattle.std.proofs.Common.{◌∙◌, ◌∷◌, ap, sym, subst, refl, arith}
use Rattle.change_log.specs.declared.step.RowStep.TheVariants.{Replaced}
use Rattle.change_log.specs.declared.step.Step.TheVariants.{Keys}
use Rattle.change_log.specs.Laws.{logged_replaced, logged_none}
use Rattle.change_log.specs.Log.{edge_hold}
use Rattle.change_log.specs.Logged.{IsLogged}
use Rattle.trie_reopen.proofs.Unmoved.{no_hold, unmoved}
use Rattle.trie_context.specs.FitEdges.{option_leads}
use Rattle.trie_context.specs.MoveLaws.{at_other}
use Rattle.trie_reopen.proofs.keys.replace_keys.Goals as goal

pub returns-clause-logged : goal.returns-clause-logged
returns-clause-logged g c =
    let t = c.args.context.now in
    let u = c.change_keys.new.context in
    let log = c.args.log.now.steps in
    let old = c.args.old in
    let new = c.in_ok-new.new in
    let h = c.in_ok-new.ensures.held in
    subst (λ steps. IsLogged g.M.Mix.mixed t u log steps (edge_hold 1 new) (edge_hold 1 old) 1) (sym (c.push.ensures ∙ ap (λ l. Keys (Replaced old new) ∷ l) c.in_ok-reserve.ensures.same))
    (logged_replaced g.M.Mix.mixed t u log (Keys (Replaced old new)) c.is_kept.ensures (h.moved, h.stay) 1 old new 1 h.moved h.stay h.counts (λ e r. refl))

pub returns-then-leads_nowhere-2-clause-logged : goal.returns-then-leads_nowhere-2-clause-logged
returns-then-leads_nowhere-2-clause-logged g c =
    let t = c.args.context.now in
    let u = c.change_keys.new.context in
    let log = c.args.log.now.steps in
    let old = c.args.old in
    let new = c.in_ok-new.new in
    let h = c.in_ok-new.ensures.held in
    let no_old = c.leads_nowhere.ensures c.if-leads_nowhere.true in
    let no_new = c.leads_nowhere-then-leads_nowhere.ensures c.if-leads_nowhere-2.true in
    subst (λ l. IsLogged g.M.Mix.mixed t u log l (edge_hold 1 new) (edge_hold 1 old) 1) (sym c.in_ok-reserve.ensures.same)
    (subst (λ v. IsLogged g.M.Mix.mixed t v log log (edge_hold 1 new) (edge_hold 1 old) 1) (sym (unmoved g.M.Mix.mixed t u c.is_kept.ensures 1 new no_new h.moved h.stay))
    (logged_none g.M.Mix.mixed t log (edge_hold 1 new) (edge_hold 1 old) 1 c.is_kept.ensures (λ f r. no_hold 1 new no_new f r ∙ sym (no_hold 1 old no_old f r))))

pub returns-clause-risen : goal.returns-clause-risen
returns-clause-risen g c d r deep = omega (arith, c.in_ok-new.ensures.held.moved.holds d r, at_other 1 (option_leads c.in_ok-new.new) d r (λ is. omega (arith, deep, is)))

pub returns-then-leads_nowhere-2-clause-risen : goal.returns-then-leads_nowhere-2-clause-risen
returns-then-leads_nowhere-2-clause-risen g c d r deep = omega (arith, c.in_ok-new.ensures.held.moved.holds d r, at_other 1 (option_leads c.in_ok-new.new) d r (λ is. omega (arith, deep, is)))
