use Rattle.std.specs.Prelude.{map}
use Rattle.std.proofs.Common.{drop}
use Rattle.query_plan.specs.Seen.{column_seen}
use Rattle.query_read.specs.Seen.{name_seen}
use Rattle.query_read.proofs.ColumnsRead.{AreColumnsSoFar}
use Rattle.query_read.proofs.column.columns_of.Given as goal

abbrev pub invariant-loop-i : goal.invariant-loop-i
invariant-loop-i l = AreColumnsSoFar (map name_seen l.names) (map name_seen l.chosen) (map name_seen (drop l.i l.chosen)) (map column_seen l.columns)
