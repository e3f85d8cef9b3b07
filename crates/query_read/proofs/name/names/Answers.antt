use Rattle.std.proofs.Common.{arith}
use Rattle.query_read.proofs.NamesRead.{names_more}
use Rattle.query_read.proofs.name.names.Goals as goal

pub loop-i-preserved : goal.loop-i-preserved
loop-i-preserved c =
    names_more c.args.all.now c.index-all-i.result _ _ _ _ c.loop-i.i c.args.to c.loop-i.invariant (omega arith) (omega arith) c.index-all-i.is c.in_ok-add.ensures c.of.ensures
