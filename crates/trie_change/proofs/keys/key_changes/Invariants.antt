use Rattle.std.proofs.Common.{◌≡◌, map, take}
use Rattle.trie_change.specs.Changes.{key_change}
use Rattle.trie_change.proofs.keys.key_changes.Given as goal

abbrev pub invariant-loop-pair : goal.invariant-loop-pair
invariant-loop-pair l = l.changes.items ≡ map (key_change l.change) (take l.pair-index l.run)
