use Rattle.std.proofs.Common.{◌≡◌, take, bit_xor}
use Rattle.trie_node.specs.Sets.{set_hash}
use Rattle.trie_change.specs.Batches.{set_of_entries, pair_rest}
use Rattle.trie_change.proofs.hash.toggled_keys.Given as goal

abbrev pub invariant-loop-pair : goal.invariant-loop-pair
invariant-loop-pair g l = l.hash ≡ bit_xor l.initial.hash (set_hash g.M.Mix.mixed 1 (set_of_entries pair_rest (take l.pair-index l.run)))
