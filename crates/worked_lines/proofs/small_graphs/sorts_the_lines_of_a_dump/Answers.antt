use Rattle.worked_lines.proofs.TriedLemmas.{three_once, alone_once}
use Rattle.worked_lines.proofs.small_graphs.sorts_the_lines_of_a_dump.Goals as goal

pub lines_of-requires-clause-once : goal.lines_of-requires-clause-once
lines_of-requires-clause-once g c = three_once

pub lines_of-requires-2-clause-once : goal.lines_of-requires-2-clause-once
lines_of-requires-2-clause-once g c = alone_once
