use Rattle.std.proofs.Common.{sym, ap, subst, refl, ◌≡◌, reverse}
use Rattle.change_log.specs.Seen.{Seen}
use Rattle.trie_context.specs.Holds.{nothing}
use Rattle.trie_context.specs.MoveLaws.{counts_as_before, rows_as_before}
use Rattle.change_log.proofs.LoopLemmas.{IsLeft, newest_first, settled_on}
use Rattle.change_log.proofs.log.Log.settle.Goals as goal

pub loop-step-init : goal.loop-step-init
loop-step-init g c =
    let t = c.args.context.now in
    let is : reverse c.self.inside.steps.items ≡ c.args.self.steps = ap (λ (s : Seen). s.steps) c.self.view_is in
    subst (IsLeft g.M.Mix.mixed t t c.args.self.steps) (sym is) (record {
      kept = c.is_kept.ensures;
      held = c.requires.held;
      places = c.requires.places;
      fallen = λ d r. refl;
      counts = counts_as_before t nothing;
      came = rows_as_before t;
      freed = λ d. refl;
    })

pub loop-step-preserved : goal.loop-step-preserved
loop-step-preserved g c =
    let e = c.settle_step.ensures in
    settled_on g.M.Mix.mixed c.args.context.now c.loop-step.context c.settle_step.new.context c.args.self.steps (reverse c.loop-step.steps.items) (reverse c.pop.new.self.items) c.in-Some.step
    (newest_first c.loop-step.steps.items c.pop.new.self.items c.in-Some.step c.in-Some.ensures.items)
    c.loop-step.invariant e.fallen e.counts e.came e.freed
