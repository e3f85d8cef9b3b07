-- Sets of tuples of ids, which are numbers.
use Rattle.std.specs.Ordering.{nat_cmp}
use Rattle.hypertrie_model.specs.Sets.{TupleSet}

abbrev pub IdSet : Type 0
IdSet = TupleSet nat_cmp
