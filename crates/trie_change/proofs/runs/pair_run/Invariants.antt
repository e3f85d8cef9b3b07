use Rattle.std.proofs.Common.{◌≡◌, ℕ, ◌<◌, ◌≤◌, ◌-◌, length, get_or}
use Rattle.trie_depth.specs.declared.id.Pair.{Pair}
use Rattle.trie_change.proofs.runs.pair_run.Given as goal

abbrev pub invariant-loop-len : goal.invariant-loop-len
invariant-loop-len l = (l.len ≤ length l.pairs) × ((k : ℕ) (d : Pair) → k < l.len → (get_or l.pairs k d).0.0 ≡ l.key.0)

abbrev pub decreases-loop-len : goal.decreases-loop-len
decreases-loop-len l = length l.pairs - l.len
