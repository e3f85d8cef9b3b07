use Rattle.std.proofs.Common.{◌≡◌, take, bit_xor}
use Rattle.trie_node.specs.Sets.{set_hash}
use Rattle.trie_change.specs.Batches.{set_of_entries, trip_rest}
use Rattle.trie_change.proofs.hash.toggled_pairs.Given as goal

abbrev pub invariant-loop-triple : goal.invariant-loop-triple
invariant-loop-triple g l = l.hash ≡ bit_xor l.initial.hash (set_hash g.M.Mix.mixed 2 (set_of_entries trip_rest (take l.triple-index l.run)))
