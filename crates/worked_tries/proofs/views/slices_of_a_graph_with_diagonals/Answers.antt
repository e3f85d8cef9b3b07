use Rattle.worked_tries.proofs.Grown.{diagonals_once}
use Rattle.worked_tries.proofs.views.slices_of_a_graph_with_diagonals.Goals as goal

pub read_by-requires-clause-once : goal.read_by-requires-clause-once
read_by-requires-clause-once g c = diagonals_once

pub read_by-requires-2-clause-once : goal.read_by-requires-2-clause-once
read_by-requires-2-clause-once g c = diagonals_once
