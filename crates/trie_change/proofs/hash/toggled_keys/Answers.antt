use Rattle.std.proofs.Common.{◌∙◌}
use Rattle.trie_node.specs.Sets.{tuple_mix}
use Rattle.trie_change.specs.Batches.{pair_rest}
use Rattle.trie_change.proofs.HashLemmas.{hash_none, hash_more}
use Rattle.trie_change.proofs.hash.toggled_keys.Goals as goal

pub loop-pair-init : goal.loop-pair-init
loop-pair-init g c = hash_none pair_rest (tuple_mix g.M.Mix.mixed 1) c.args.hash

pub loop-pair-preserved : goal.loop-pair-preserved
loop-pair-preserved g c = c.toggled-hash.ensures ∙ hash_more pair_rest (tuple_mix g.M.Mix.mixed 1) c.args.run.now c.loop-pair.pair-index (record { 0 = record { 0 = 0 }; 1 = record { 0 = 0 } }) c.loop-pair-test.true c.requires c.args.hash c.loop-pair.hash c.loop-pair.invariant
