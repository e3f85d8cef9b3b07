use Rattle.std.proofs.Common.{reverse}
use Rattle.change_log.proofs.LoopLemmas.{IsLeft}
use Rattle.change_log.proofs.log.Log.settle.Given as goal

abbrev pub invariant-loop-step : goal.invariant-loop-step
invariant-loop-step g l = IsLeft g.M.Mix.mixed l.fn.context l.context l.fn.self.steps (reverse l.steps.items)

abbrev pub decreases-loop-step : goal.decreases-loop-step
decreases-loop-step g l = goal.left-loop-step g l
