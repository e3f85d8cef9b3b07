use Rattle.std.proofs.Common.{length}
use Rattle.trie_node.specs.Sets.{edge_set}
use Rattle.trie_context.specs.Rows.{set_of}
use Rattle.graph_lines.specs.Walks.{behind}
use Rattle.graph_lines.proofs.EdgeWalks.{WalkedTo}
use Rattle.graph_lines.proofs.members.add_pairs.Given as goal

abbrev pub invariant-loop-key : goal.invariant-loop-key
invariant-loop-key l = WalkedTo l.pairs (edge_set (set_of l.all.tables.now 1)) (behind l.style l.all.dict.now l.before) l.fn.texts.items l.walk l.texts.items

abbrev pub decreases-loop-key : goal.decreases-loop-key
decreases-loop-key l = length l.walk
