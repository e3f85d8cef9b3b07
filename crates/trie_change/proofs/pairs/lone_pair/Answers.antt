use Rattle.std.proofs.Common.{refl}
use Rattle.trie_change.specs.Batches.{trip_rest}
use Rattle.trie_change.proofs.LoneLemmas.{lone_after}
use Rattle.trie_change.proofs.pairs.lone_pair.Goals as goal

pub returns-in-Grow-None : goal.returns-in-Grow-None
returns-in-Grow-None c = (_, refl, λ t. lone_after trip_rest c.args.change c.args.old c.args.run.now _ c.in-Grow-None.is-0 c.in-Grow-None.is-1 c.if-run-eq1.true t 2)
