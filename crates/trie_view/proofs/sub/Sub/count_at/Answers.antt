use Rattle.std.proofs.Common.{sym, ◌∙◌}
use Rattle.trie_view.specs.Subs.{sub_set}
use Rattle.trie_view.specs.EdgesAt.{one_count, map_count}
use Rattle.trie_view.proofs.sub.Sub.count_at.Goals as goal

pub returns-in-One-clause-count : goal.returns-in-One-clause-count
returns-in-One-clause-count g c = sym (one_count (sub_set c.args.self) c.args.position c.in-One.field-0 c.in-One.ensures)

pub returns-in-Of-clause-count : goal.returns-in-Of-clause-count
returns-in-Of-clause-count g c = c.len.ensures ∙ sym (map_count (sub_set c.args.self) c.args.position c.in-Of.edges.now c.in-Of.ensures)
