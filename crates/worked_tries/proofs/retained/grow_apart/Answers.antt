use Rattle.trie_depth.specs.Tuples.{trip_tuple}
use Rattle.trie_context.specs.Roots.{root_set}
use Rattle.worked_tries.proofs.Alone.{apart_alone}
use Rattle.worked_tries.proofs.retained.grow_apart.Goals as goal

pub grow_alone-requires-clause-alone : goal.grow_alone-requires-clause-alone
grow_alone-requires-clause-alone g c = apart_alone (root_set c.args.context.now c.args.root.now) (trip_tuple c.args.triple) c.requires.apart
