use Rattle.std.proofs.Common.{sym, ap, subst, ◌≡◌, reverse}
use Rattle.trie_context.specs.declared.tables.Tables.{Tables}
use Rattle.change_log.specs.Log.{Leads}
use Rattle.change_log.specs.Seen.{Seen}
use Rattle.change_log.proofs.LoopLemmas.{newest_first, newest, undone_on}
use Rattle.change_log.proofs.log.Log.undo.Goals as goal

pub loop-step-init : goal.loop-step-init
loop-step-init g c =
    let is : reverse c.self.inside.steps.items ≡ c.args.self.steps = ap (λ (s : Seen). s.steps) c.self.view_is in
    record {
      there = (c.requires.led.0, subst (λ steps. Leads g.M.Mix.mixed c.requires.led.0 steps c.args.context.now) (sym is) c.requires.led.1);
      leads = λ t led. subst (λ steps. Leads g.M.Mix.mixed t steps c.args.context.now) (sym is) led;
    }

pub undo_step-requires : goal.undo_step-requires
undo_step-requires g c =
    let there = c.loop-step.invariant.there in
    let is = newest_first c.loop-step.done.items c.pop.new.self.items c.in-Some.step c.in-Some.ensures.items in
    let s = newest g.M.Mix.mixed there.0 c.loop-step.context (reverse c.loop-step.done.items) (reverse c.pop.new.self.items) c.in-Some.step is there.1 in
    record { done = (s.0, s.2, s.3) }

pub loop-step-preserved : goal.loop-step-preserved
loop-step-preserved g c =
    let was = c.loop-step.invariant in
    let is = newest_first c.loop-step.done.items c.pop.new.self.items c.in-Some.step c.in-Some.ensures.items in
    let on : (t : Tables) → Leads g.M.Mix.mixed t (reverse c.loop-step.done.items) c.loop-step.context → Leads g.M.Mix.mixed t (reverse c.pop.new.self.items) c.undo_step.new.context
    = λ t led. undone_on g.M.Mix.mixed t c.loop-step.context c.undo_step.new.context (reverse c.loop-step.done.items) (reverse c.pop.new.self.items) c.in-Some.step is c.undo_step.ensures led in
    record { there = (was.there.0, on was.there.0 was.there.1); leads = λ t led. on t (was.leads t led) }
