use Rattle.std.proofs.Common.{ℕ, ◌+◌, ◌<◌, ◌≤◌, length}
use Rattle.key_join.specs.Common.{AdmitsAt}
use Rattle.key_join.proofs.common.turn.Given as goal

-- those up to i places behind were asked
abbrev pub invariant-loop-i : goal.invariant-loop-i
invariant-loop-i g l = record {
  on : (j : ℕ) → l.at ≤ j → j < l.at + l.i → j < length l.ops → AdmitsAt g.O.Operand.tuples l.ops l.masks j l.key.0;
  around : (j : ℕ) → j < l.at → j + length l.ops < l.at + l.i → AdmitsAt g.O.Operand.tuples l.ops l.masks j l.key.0;
}
