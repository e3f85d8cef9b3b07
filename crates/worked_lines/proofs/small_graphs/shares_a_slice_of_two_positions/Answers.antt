use Rattle.worked_lines.proofs.TriedLemmas.{chain_once}
use Rattle.worked_lines.proofs.small_graphs.shares_a_slice_of_two_positions.Goals as goal

pub lines_of-requires-clause-once : goal.lines_of-requires-clause-once
lines_of-requires-clause-once g c = chain_once
