use Rattle.std.proofs.Common.{[], length}
use Rattle.trie_node.specs.Sets.{edge_set}
use Rattle.trie_context.specs.Rows.{set_of}
use Rattle.graph_lines.specs.Walks.{line_behind}
use Rattle.graph_lines.proofs.EdgeWalks.{WalkedTo}
use Rattle.graph_lines.proofs.triple_lines.add_triples.Given as goal

abbrev pub invariant-loop-subject : goal.invariant-loop-subject
invariant-loop-subject l = WalkedTo l.triples (edge_set (set_of l.all.tables.now 2)) (line_behind l.all.dict.now []) l.fn.lines.items l.walk l.lines.items

abbrev pub decreases-loop-subject : goal.decreases-loop-subject
decreases-loop-subject l = length l.walk
