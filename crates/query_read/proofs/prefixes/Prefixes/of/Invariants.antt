use Rattle.std.proofs.Common.{◌≡◌, ◌≤◌, ℕ, List, length, drop}
use Rattle.std.specs.BTreeMap.{get_by_text}
use Rattle.query_grammar.specs.Texts.{declared}
use Rattle.query_read.proofs.prefixes.Prefixes.of.Given as goal

abbrev pub invariant-loop-i : goal.invariant-loop-i
invariant-loop-i l = record {
  within : l.i ≤ length l.all;
  each : (name : List ℕ) → get_by_text l.iris name ≡ declared name (drop l.i l.all);
}

abbrev pub decreases-loop-i : goal.decreases-loop-i
decreases-loop-i l = l.i
