use Rattle.std.proofs.Common.{◌+◌, ◌*◌, ◌≤◌}
use Rattle.trie_view.specs.Subs.{sub_depth, sub_set}
use Rattle.trie_view.proofs.FixLemmas.{IsOnWay}
use Rattle.trie_view.proofs.sub.Sub.fixed.Given as goal

abbrev pub invariant-loop-turn : goal.invariant-loop-turn
invariant-loop-turn g l =
    IsOnWay (sub_set l.fn.self) (sub_set l.sub) (sub_depth l.fn.self) (sub_depth l.sub) l.fn.mask.0 l.key.0 l.turn
    × (l.fn.reads + l.turn ≤ l.reads)
    × (l.reads ≤ l.fn.reads + 2 * l.turn)
