use Rattle.std.proofs.Common.{◌≡◌, ◌+◌, ◌-◌, ◌^◌, ◌<◌, ◌≤◌, ℕ}
use Rattle.trie_depth.specs.Operands.{Admits}
use Rattle.trie_view.specs.Subs.{sub_set}
use Rattle.trie_view.proofs.sub.Sub.next_fixed.Given as goal

-- no key before this one has a slice
abbrev pub invariant-loop-mask : goal.invariant-loop-mask
invariant-loop-mask g l =
    ((k : ℕ) → l.fn.from.0 ≤ k → k < l.key.0 → Admits (sub_set l.self) l.mask.0 k → ⊥)
    × (l.fn.from.0 ≤ l.key.0)
    × (l.fn.reads + 1 ≤ l.reads)

abbrev pub decreases-loop-mask : goal.decreases-loop-mask
decreases-loop-mask g l = 2 ^ 32 - l.key.0
