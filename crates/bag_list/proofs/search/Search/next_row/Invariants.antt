use Rattle.std.specs.List.Sorted.{IsPermutation}
use Rattle.bag_list.specs.Search.{IsKept, IsSameQuery, coming_of, steps_left}
use Rattle.bag_list.proofs.search.Search.next_row.Given as goal

abbrev pub invariant-loop-self : goal.invariant-loop-self
invariant-loop-self g l = record {
  kept : IsKept g.O.Operand.depth_of g.O.Operand.tuples l.self;
  same : IsSameQuery g.O.Operand.tuples l.fn.self l.self;
  coming : IsPermutation (coming_of g.O.Operand.tuples l.fn.self) (coming_of g.O.Operand.tuples l.self);
}

abbrev pub decreases-loop-self : goal.decreases-loop-self
decreases-loop-self g l = steps_left l.self
