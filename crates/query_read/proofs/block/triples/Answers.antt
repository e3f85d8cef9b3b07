use Rattle.std.proofs.Common.{arith}
use Rattle.query_read.proofs.BlockRead.{block_begins, block_fails, block_goes_on, step_none, step_some}
use Rattle.query_read.proofs.block.triples.Goals as goal

pub loop-i-init : goal.loop-i-init
loop-i-init c = block_begins c.args.all.now c.args.from c.args.to c.new-brackets.result c.new-found.result.items c.new-brackets.ensures c.new-found.ensures.items

pub returns-in_default : goal.returns-in_default
returns-in_default c =
    block_fails c.args.all.now c.index-all-i.result c.args.from c.args.to c.loop-i.i _ _ _ c.loop-i.invariant (omega arith) (omega arith) c.index-all-i.is
    (step_none c.in_ok-next.field-0 c.step.new.brackets _ _ _ _ c.index-all-i.result c.loop-i.i c.in_ok-next.ensures c.in_default.is c.of.ensures c.sign.ensures)

pub loop-i-preserved : goal.loop-i-preserved
loop-i-preserved c =
    block_goes_on c.args.all.now c.index-all-i.result c.args.from c.args.to c.loop-i.i _ _ _ _ _ c.loop-i.invariant (omega arith) (omega arith) c.index-all-i.is
    (step_some c.in_ok-next.field-0 c.in-Some.next c.step.new.brackets _ _ _ _ c.index-all-i.result c.loop-i.i c.in_ok-next.ensures c.in-Some.is c.of.ensures c.sign.ensures) c.in_ok-push_some.ensures
