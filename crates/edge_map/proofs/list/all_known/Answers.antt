use Rattle.trie_depth.specs.declared.id.Id.{Id}
use Rattle.edge_map.specs.declared.edge.Edge.{Edge}
use Rattle.edge_map.specs.declared.edge.Edge.TheVariants.{Key}
use Rattle.edge_map.proofs.MergeLemmas.{small_push}
use Rattle.edge_map.proofs.list.all_known.Goals as goal

none : Id × Edge
none = (record { 0 = 0 }, Key (record { 0 = 0 }))

pub loop-key-preserved : goal.loop-key-preserved
unfolding none
loop-key-preserved c = small_push none c.args.entries.now c.loop-key.key-index c.loop-key-test.true c.loop-key.invariant c.known.ensures
