use Rattle.std.proofs.Common.{arith}
use Rattle.trie_reopen.proofs.OwnMaps.{triple_edges_are}
use Rattle.trie_reopen.proofs.graph.triple_maps.Goals as goal

pub returns-clause-edges : goal.returns-clause-edges
returns-clause-edges g c n at r =
    let is = triple_edges_are g.M.Mix.mixed c.args.context.now c.is_kept.ensures c.args.row n at c.in_ok-first.first c.in_ok-second.second c.in_ok-third.third c.in_ok-first.ensures c.in_ok-second.ensures c.in_ok-third.ensures r in
    omega arith
