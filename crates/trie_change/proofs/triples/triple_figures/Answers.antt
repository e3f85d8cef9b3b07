use Rattle.std.proofs.Common.{◌≡◌, ◌∙◌, sym, subst}
use Rattle.std.specs.FinSet as set
use Rattle.trie_node.specs.Sets.{set_hash}
use Rattle.trie_change.specs.Rooms.{row_set_at}
use Rattle.trie_change.proofs.TripleLemmas.{row_size, row_hash, no_triples, no_hash}
use Rattle.trie_change.proofs.triples.triple_figures.Goals as goal

pub returns-in-Some-clause-size : goal.returns-in-Some-clause-size
returns-in-Some-clause-size g c = c.size.ensures ∙ row_size c.tables.ensures.kept c.tables.ensures.same c.args.row c.requires c.in-Some.row c.in-Some.is c.node-node.result.now c.node-node.ensures

pub returns-in-Some-clause-hash : goal.returns-in-Some-clause-hash
returns-in-Some-clause-hash g c = c.hash_of.ensures ∙ row_hash c.tables.ensures.kept c.tables.ensures.same c.args.row c.requires c.in-Some.row c.in-Some.is c.node-node.result.now c.node-node.ensures

pub returns-in-None-clause-size : goal.returns-in-None-clause-size
returns-in-None-clause-size g c = subst (λ o. 0 ≡ set.len (row_set_at c.args.context.now o)) (sym c.in-None.is) (sym no_triples)

pub returns-in-None-clause-hash : goal.returns-in-None-clause-hash
returns-in-None-clause-hash g c = subst (λ o. 0 ≡ set_hash g.M.Mix.mixed 3 (row_set_at c.args.context.now o)) (sym c.in-None.is) (sym (no_hash g.M.Mix.mixed))
