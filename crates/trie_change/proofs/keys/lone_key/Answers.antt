use Rattle.trie_change.specs.Batches.{pair_rest}
use Rattle.trie_change.proofs.LoneLemmas.{lone_after}
use Rattle.trie_change.proofs.keys.lone_key.Goals as goal

pub returns-in-Grow-None-clause-stands : goal.returns-in-Grow-None-clause-stands
returns-in-Grow-None-clause-stands c t = (tt, lone_after pair_rest c.args.change c.args.old c.args.run.now _ c.in-Grow-None.is-0 c.in-Grow-None.is-1 c.if-run-eq1.true t 1)
