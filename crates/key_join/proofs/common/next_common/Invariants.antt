use Rattle.std.proofs.Common.{ℕ, ◌<◌, ◌≤◌, ◌-◌, ◌^◌, length}
use Rattle.key_join.specs.Common.{AdmitsAt, AllAdmit}
use Rattle.key_join.proofs.common.next_common.Given as goal

abbrev pub invariant-loop-next : goal.invariant-loop-next
invariant-loop-next g l = record {
  from : l.fn.from.0 ≤ l.key.0;
  at : l.at < length l.ops;
  admitted : AdmitsAt g.O.Operand.tuples l.ops l.masks l.at l.key.0;
  skipped : (k : ℕ) → l.fn.from.0 ≤ k → k < l.key.0 → AllAdmit g.O.Operand.tuples l.ops l.masks k → ⊥;
}

abbrev pub decreases-loop-next : goal.decreases-loop-next
decreases-loop-next g l = 2 ^ 32 - l.key.0
