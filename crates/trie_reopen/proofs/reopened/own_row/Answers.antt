use Rattle.std.proofs.Common.{◌≡◌, IsSome, sym, subst}
use Rattle.node_table.specs.Table.{row_at}
use Rattle.edge_map.specs.declared.edge.Edge.TheVariants.{Node as ToRow}
use Rattle.trie_context.specs.declared.tables.Tables.{Tables}
use Rattle.trie_change.specs.PairLaws.{pair_edge_there}
use Rattle.trie_reopen.proofs.reopened.own_row.Goals as goal

pub count-requires : goal.count-requires
count-requires g c =
    let is : c.in-Some-Node.field-0 ≡ ToRow c.in-Some-Node.row = rw c.in-Some-Node.is at c.in-Some-Node.field-0-is in
    subst (λ (t : Tables). IsSome (row_at t.two c.in-Some-Node.row)) (sym c.tables.ensures.same) (pair_edge_there c.args.context.now c.args.edge c.in-Some-Node.field-0 c.in-Some-Node.row c.in-Some-Node.is is c.requires)
