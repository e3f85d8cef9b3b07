use Rattle.std.proofs.Common.{◌≡◌, map, take}
use Rattle.trie_change.specs.Batches.{pair_in_front}
use Rattle.trie_change.proofs.batch.pairs_by_key.Given as goal

abbrev pub invariant-loop-triple : goal.invariant-loop-triple
invariant-loop-triple l = l.pairs.items ≡ map (pair_in_front l.position) (take l.triple-index l.run)
