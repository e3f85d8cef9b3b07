use Rattle.worked_lines.proofs.TriedLemmas.{objects_once}
use Rattle.worked_lines.proofs.small_graphs.shares_equal_slices.Goals as goal

pub lines_of-requires-clause-once : goal.lines_of-requires-clause-once
lines_of-requires-clause-once g c = objects_once
