use Rattle.std.proofs.Common.{arith}
use Rattle.edge_map.proofs.ChunkLemmas.{pushed_behind}
use Rattle.edge_map.proofs.short.Short.append_to.Goals as goal

pub loop-at-preserved : goal.loop-at-preserved
loop-at-preserved c =
    pushed_behind c.at.result c.args.run.now.items c.loop-at.run.items c.push.new.self.items c.args.self.now c.loop-at.at (omega (arith, c.len-at-end.ensures, c.loop-at-test.true))
    c.at.ensures c.loop-at.invariant c.in_ok-push.ensures.items
