use Rattle.std.proofs.Common.{subst}
use Rattle.trie_context.specs.Rows.{LeadsToRow}
use Rattle.trie_context.specs.RowLaws.{row_low}
use Rattle.trie_context.proofs.retain.retain_edge.Goals as goal

pub retain_row-requires-clause-low : goal.retain_row-requires-clause-low
retain_row-requires-clause-low g c = row_low c.args.tables.now c.args.depth c.in-Node.row (subst (LeadsToRow c.args.tables.now c.args.depth) c.in-Node.is c.requires.there)
