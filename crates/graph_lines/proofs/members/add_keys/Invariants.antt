use Rattle.std.proofs.Common.{[], length}
use Rattle.std.specs.Ordering.{nat_cmp}
use Rattle.hypertrie_model.specs.Sets.{single}
use Rattle.graph_lines.specs.Walks.{behind}
use Rattle.graph_lines.proofs.EdgeWalks.{WalkedTo}
use Rattle.graph_lines.proofs.members.add_keys.Given as goal

abbrev pub invariant-loop-key : goal.invariant-loop-key
invariant-loop-key l = WalkedTo l.keys (λ _. single nat_cmp []) (behind l.style l.dict l.before) l.fn.texts.items l.walk l.texts.items

abbrev pub decreases-loop-key : goal.decreases-loop-key
decreases-loop-key l = length l.walk
