use Rattle.trie_context.proofs.OpenLemmas.{discarded}
use Rattle.trie_context.proofs.opened.discard_place.Goals as goal

pub returns-clause-moved : goal.returns-clause-moved
returns-clause-moved g c =
    discarded g.M.Mix.mixed c.args.tables.now c.requires.kept c.args.depth c.requires.low c.requires.high c.args.spot c.drop_spot.new.self c.drop_spot.ensures
