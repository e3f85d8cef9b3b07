use Rattle.query_plan.specs.Allowed.{IsFirstLeast}
use Rattle.query_plan.proofs.choice.choose.Given as goal

abbrev pub invariant-loop-i : goal.invariant-loop-i
invariant-loop-i l = IsFirstLeast l.counts l.allowed l.i l.best
