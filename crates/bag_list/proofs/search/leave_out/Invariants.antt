use Rattle.bag_list.specs.Rows.{rows_to_come}
use Rattle.bag_list.specs.Search.{IsKept, IsSameQuery}
use Rattle.bag_list.proofs.RowLemmas.{AreLeftOut}
use Rattle.bag_list.proofs.search.leave_out.Given as goal

abbrev pub invariant-loop-row : goal.invariant-loop-row
invariant-loop-row g l = record {
  kept : IsKept g.O.Operand.depth_of g.O.Operand.tuples l.search;
  same : IsSameQuery g.O.Operand.tuples l.fn.search l.search;
  left : AreLeftOut (rows_to_come g.O.Operand.tuples l.fn.search) (rows_to_come g.O.Operand.tuples l.search) l._row;
}
