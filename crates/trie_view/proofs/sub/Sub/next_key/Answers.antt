use Rattle.std.proofs.Common.{sym, ◌∙◌, refl}
use Rattle.trie_view.specs.Subs.{sub_set}
use Rattle.trie_view.proofs.KeyLemmas.{no_edge, an_edge}
use Rattle.trie_view.proofs.sub.Sub.next_key.Goals as goal

pub returns-in_err-key-in-Of-clause-none : goal.returns-in_err-key-in-Of-clause-none
returns-in_err-key-in-Of-clause-none g c _ k le = no_edge (sub_set c.args.self) c.args.position c.in-Of.edges.now c.in-Of.ensures k (c.in_err-key-in-Of.ensures.none refl k le)

pub returns-in_ok-key-in-Of-clause-least : goal.returns-in_ok-key-in-Of-clause-least
returns-in_ok-key-in-Of-clause-least g c k le lt = no_edge (sub_set c.args.self) c.args.position c.in-Of.edges.now c.in-Of.ensures k (c.in_ok-key-in-Of.ensures.least k le lt)
