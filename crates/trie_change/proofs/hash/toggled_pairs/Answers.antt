use Rattle.std.proofs.Common.{◌∙◌}
use Rattle.trie_node.specs.Sets.{tuple_mix}
use Rattle.trie_change.specs.Batches.{trip_rest}
use Rattle.trie_change.proofs.HashLemmas.{hash_none, hash_more}
use Rattle.trie_change.proofs.hash.toggled_pairs.Goals as goal

pub loop-triple-init : goal.loop-triple-init
loop-triple-init g c = hash_none trip_rest (tuple_mix g.M.Mix.mixed 2) c.args.hash

pub loop-triple-preserved : goal.loop-triple-preserved
loop-triple-preserved g c = c.toggled-hash.ensures ∙ hash_more trip_rest (tuple_mix g.M.Mix.mixed 2) c.args.run.now c.loop-triple.triple-index (record { 0 = record { 0 = 0 }; 1 = record { 0 = 0 }; 2 = record { 0 = 0 } }) c.loop-triple-test.true c.requires c.args.hash c.loop-triple.hash c.loop-triple.invariant
