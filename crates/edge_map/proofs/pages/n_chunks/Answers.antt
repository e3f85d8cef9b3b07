use Rattle.std.proofs.Common.{◌+◌, ap, length, arith}
use Rattle.edge_map.proofs.PageLemmas.{count_next, count_within}
use Rattle.edge_map.proofs.pages.n_chunks.Goals as goal

pub overflow_add-n : goal.overflow_add-n
overflow_add-n c =
    let next = count_next c.args.pages.now c.page-item.result c.loop-page.page-index c.loop-page.n _ c.loop-page-test.true c.loop-page.invariant c.page-item.is (ap length c.as_slice.ensures) in
    let within = count_within c.args.pages.now (c.loop-page.page-index + 1) in
    let few = c.requires in
    omega (arith, next, within, few)

pub loop-page-preserved : goal.loop-page-preserved
loop-page-preserved c = count_next c.args.pages.now c.page-item.result c.loop-page.page-index c.loop-page.n _ c.loop-page-test.true c.loop-page.invariant c.page-item.is (ap length c.as_slice.ensures)
