use Rattle.std.proofs.Common.{◌-◌, ◌^◌}
use Rattle.trie_context.specs.Rows.{rows_at}
use Rattle.graph_lines.specs.Walks.{key_set, row_text}
use Rattle.graph_lines.proofs.WalkLemmas.{Walked}
use Rattle.graph_lines.proofs.row_lines.add_row_lines.Given as goal

abbrev pub invariant-loop-row : goal.invariant-loop-row
invariant-loop-row l = Walked (row_text l.all.dict.now l.all.tables.now l.depth) (key_set (rows_at l.all.tables.now l.depth)) l.from l.fn.lines.items l.lines.items

abbrev pub decreases-loop-row : goal.decreases-loop-row
decreases-loop-row l = 2 ^ 64 - l.from
