use Rattle.std.proofs.Math.Logic.{∥∥₁_elim, ∥∥₁_prop}
use Rattle.trie_view.proofs.RootLemmas.{triple_known, triples_known, root_row}
use Rattle.trie_view.proofs.sub.Sub.of.Goals as goal

pub invariant_of-result : goal.invariant_of-result
invariant_of-result c = record { known = ∥∥₁_elim c.requires.kept ∥∥₁_prop (λ k. triple_known c.args.tables.now k.0 k.1 c.in-One.triple c.ids_of.ensures) }

pub invariant_of-result-in-Many : goal.invariant_of-result-in-Many
invariant_of-result-in-Many c =
    let there = root_row c.args.tables.now c.args.root.now c.in-Many.held c.row.result c.in-Many.is c.row.ensures c.requires.there in
    record { known = ∥∥₁_elim c.requires.kept ∥∥₁_prop (λ k. triples_known c.args.tables.now k.0 k.1 c.row.result there c.node-node.result c.node-node.ensures c.keys_are_ids.ensures) }
