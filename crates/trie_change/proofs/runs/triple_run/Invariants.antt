use Rattle.std.proofs.Common.{◌≡◌, ℕ, ◌<◌, ◌≤◌, ◌-◌, length, get_or}
use Rattle.trie_depth.specs.declared.id.Trip.{Trip}
use Rattle.trie_change.proofs.runs.triple_run.Given as goal

abbrev pub invariant-loop-len : goal.invariant-loop-len
invariant-loop-len l = (l.len ≤ length l.triples) × ((k : ℕ) (d : Trip) → k < l.len → (get_or l.triples k d).0.0 ≡ l.key.0)

abbrev pub decreases-loop-len : goal.decreases-loop-len
decreases-loop-len l = length l.triples - l.len
