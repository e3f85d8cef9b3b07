use Rattle.std.proofs.Common.{◌∙◌, arith}
use Rattle.bag_list.proofs.RowLemmas.{left_out-all, left_out-more}
use Rattle.bag_list.proofs.search.leave_out.Goals as goal

pub returns-then-not-next_row-clause-none : goal.returns-then-not-next_row-clause-none
returns-then-not-next_row-clause-none g c e =
    let none = c.next_row.ensures.none c.if-not-next_row.true in
    let n = left_out-all _ _ c.loop-row._row c.loop-row.invariant.left none.0 in
    let lt = c.loop-row-test.true in
    (omega (arith, n, lt), none.1)

pub loop-row-preserved : goal.loop-row-preserved
loop-row-preserved g c =
    let i = c.loop-row.invariant in
    let o = c.next_row.ensures in
    record {
      kept = o.kept;
      same = record {
        n = o.same.n ∙ i.same.n;
        rests = o.same.rests ∙ i.same.rests;
        columns = o.same.columns ∙ i.same.columns;
        distinct = o.same.distinct ∙ i.same.distinct;
      };
      left = left_out-more _ _ c.loop-row._row _ _ i.left (o.some c.if-not-next_row.false);
    }
