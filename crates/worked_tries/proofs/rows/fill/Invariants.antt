use Rattle.std.proofs.Common.{◌<◌}
use Rattle.node_table.proofs.TableLemmas.{AllNodes}
use Rattle.worked_tries.proofs.rows.fill.Given as goal

abbrev pub invariant-loop-n : goal.invariant-loop-n
invariant-loop-n l = AllNodes (λ node. node.0 < l.n) l.table
