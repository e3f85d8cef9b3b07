use Rattle.std.proofs.Common.{◌≡◌, ap, subst, sym, ◌∙◌, IsSome, IfSome}
use Rattle.std.specs.FinSet as set
use Rattle.node_table.specs.Table.{row_at}
use Rattle.edge_map.specs.declared.edge.Edge.TheVariants.{Node as ToRow}
use Rattle.trie_node.specs.Sets.{tuple_mix, set_hash}
use Rattle.trie_context.specs.declared.tables.Tables.{Tables}
use Rattle.trie_context.specs.FitEdges.{set_at}
use Rattle.trie_change.specs.PairLaws.{pair_edge_there, pair_edge_set, edge_row, row_size, row_hash, none_size, none_hash}
use Rattle.trie_change.proofs.pairs.pair_figures.Goals as goal

pub node-node-requires : goal.node-node-requires
node-node-requires g c =
    let row : c.in-Some-Node.field-0 ≡ ToRow c.in-Some-Node.row = rw c.in-Some-Node.is at c.in-Some-Node.field-0-is in
    subst (λ (t : Tables). IsSome (row_at t.two c.in-Some-Node.row)) (sym c.tables.ensures.same) (pair_edge_there c.args.context.now c.args.edge c.in-Some-Node.field-0 c.in-Some-Node.row c.in-Some-Node.is row c.requires)

pub returns-in-Some-Node-clause-size : goal.returns-in-Some-Node-clause-size
returns-in-Some-Node-clause-size g c =
    let t = c.args.context.now in
    let row : c.in-Some-Node.field-0 ≡ ToRow c.in-Some-Node.row = rw c.in-Some-Node.is at c.in-Some-Node.field-0-is in
    let node = subst (λ (u : Tables). IfSome (row_at u.two c.in-Some-Node.row) (λ r. r.node ≡ c.node-node.result.now)) c.tables.ensures.same c.node-node.ensures in
    c.size.ensures
    ∙ row_size g.M.Mix.mixed t c.in-Some-Node.row c.node-node.result.now (edge_row g.M.Mix.mixed t c.tables.ensures.kept c.args.edge c.in-Some-Node.field-0 c.in-Some-Node.row c.in-Some-Node.is row c.requires c.node-node.result.now node)
    ∙ ap set.len (sym (pair_edge_set t c.args.edge c.in-Some-Node.field-0 c.in-Some-Node.row c.in-Some-Node.is row))

pub returns-in-Some-Node-clause-hash : goal.returns-in-Some-Node-clause-hash
returns-in-Some-Node-clause-hash g c =
    let t = c.args.context.now in
    let row : c.in-Some-Node.field-0 ≡ ToRow c.in-Some-Node.row = rw c.in-Some-Node.is at c.in-Some-Node.field-0-is in
    let node = subst (λ (u : Tables). IfSome (row_at u.two c.in-Some-Node.row) (λ r. r.node ≡ c.node-node.result.now)) c.tables.ensures.same c.node-node.ensures in
    c.hash_of.ensures
    ∙ row_hash g.M.Mix.mixed t c.in-Some-Node.row c.node-node.result.now (edge_row g.M.Mix.mixed t c.tables.ensures.kept c.args.edge c.in-Some-Node.field-0 c.in-Some-Node.row c.in-Some-Node.is row c.requires c.node-node.result.now node)
    ∙ ap (set_hash g.M.Mix.mixed 2) (sym (pair_edge_set t c.args.edge c.in-Some-Node.field-0 c.in-Some-Node.row c.in-Some-Node.is row))

pub returns-in_default-2-clause-size : goal.returns-in_default-2-clause-size
returns-in_default-2-clause-size g c = sym (ap set.len (ap (set_at c.args.context.now 2) c.in_default.is) ∙ none_size)

pub returns-in_default-2-clause-hash : goal.returns-in_default-2-clause-hash
returns-in_default-2-clause-hash g c = sym (ap (set_hash g.M.Mix.mixed 2) (ap (set_at c.args.context.now 2) c.in_default.is) ∙ none_hash (tuple_mix g.M.Mix.mixed 2))
