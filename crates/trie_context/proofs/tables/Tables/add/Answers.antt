use Rattle.std.proofs.Common.{subst}
use Rattle.node_table.specs.Table.{HasNoNode}
use Rattle.trie_context.specs.Rows.{table_at}
use Rattle.trie_context.proofs.tables.Tables.add.Goals as goal

pub add-requires : goal.add-requires
add-requires c = subst (λ d. HasNoNode (table_at c.args.self.now d) c.args.node) c.in-1.is c.requires.new

pub add-requires-in-2 : goal.add-requires-in-2
add-requires-in-2 c = subst (λ d. HasNoNode (table_at c.args.self.now d) c.args.node) c.in-2.is c.requires.new

pub add-requires-in-3 : goal.add-requires-in-3
add-requires-in-3 c = subst (λ d. HasNoNode (table_at c.args.self.now d) c.args.node) c.in-3.is c.requires.new
