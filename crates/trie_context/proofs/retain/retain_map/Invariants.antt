use Rattle.std.proofs.Common.{◌≡◌, ◌+◌, ◌≤◌, ◌^◌, length}
use Rattle.std.specs.FinMap as map
use Rattle.trie_context.proofs.RetainLemmas.{AreRetained}
use Rattle.trie_context.proofs.retain.retain_map.Given as goal

-- the edges that were passed have their holds, and a tick each
abbrev pub invariant-loop-edge : goal.invariant-loop-edge
invariant-loop-edge g l =
    AreRetained g.M.Mix.mixed l.fn.tables l.tables l.depth l.edges l.walk
    × (l.retains + length l.walk ≡ l.fn.retains + map.len l.edges)
    × (map.len l.edges ≤ 2 ^ 32)

abbrev pub decreases-loop-edge : goal.decreases-loop-edge
decreases-loop-edge g l = length l.walk
