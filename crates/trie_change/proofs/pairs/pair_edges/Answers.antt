use Rattle.std.proofs.Common.{refl, ◌≡◌, ap, subst, sym, ◌∙◌, IsSome, IfSome, arith}
use Rattle.std.specs.FinMap as map
use Rattle.node_table.specs.Table.{row_at}
use Rattle.edge_map.specs.Edges.{Edges}
use Rattle.edge_map.specs.declared.edge.Edge.TheVariants.{Key, Node as ToRow}
use Rattle.trie_node.specs.declared.node.Node.TheVariants.{Single, Full}
use Rattle.trie_context.specs.declared.tables.Tables.{Tables}
use Rattle.trie_context.specs.FitEdges.{set_at}
use Rattle.trie_change.specs.Rooms.{AreSlicesAt}
use Rattle.trie_change.specs.PairLaws.{pair_edge_there, edge_row, edge_slices, row_single, row_first, row_second, empty_slices, slices_as, if_ok}
use Rattle.trie_change.proofs.pairs.pair_edges.Goals as goal
use Rattle.trie_change.proofs.pairs.pair_edges.Goals.{then-position-eq0, else-position-eq0}

pub node-requires : goal.node-requires
node-requires g c =
    let row : c.in-Some-Node.field-0 ≡ ToRow c.in-Some-Node.row = rw c.in-Some-Node.is at c.in-Some-Node.field-0-is in
    subst (λ (t : Tables). IsSome (row_at t.two c.in-Some-Node.row)) (sym c.tables.ensures.same) (pair_edge_there c.args.context.now c.args.edge c.in-Some-Node.field-0 c.in-Some-Node.row c.in-Some-Node.is row c.requires.fits)

pub returns-in-Single : goal.returns-in-Single
returns-in-Single g c =
    let t = c.args.context.now in
    let row : c.in-Some-Node.field-0 ≡ ToRow c.in-Some-Node.row = rw c.in-Some-Node.is at c.in-Some-Node.field-0-is in
    let found = subst (λ (u : Tables). IfSome (row_at u.two c.in-Some-Node.row) (λ r. r.node ≡ c.node.result.now)) c.tables.ensures.same c.node.ensures in
    let node = edge_row g.M.Mix.mixed t c.tables.ensures.kept c.args.edge c.in-Some-Node.field-0 c.in-Some-Node.row c.in-Some-Node.is row c.requires.fits (Single c.in-Single.pair)
    (subst (λ n. IfSome (row_at t.two c.in-Some-Node.row) (λ r. r.node ≡ n)) c.in-Single.is found) in
    let slices = edge_slices t c.args.edge c.in-Some-Node.field-0 c.in-Some-Node.row c.in-Some-Node.is row c.args.position _ (row_single g.M.Mix.mixed t c.in-Some-Node.row c.in-Single.pair c.args.position c.requires.position node) in
    if_ok (λ (m : Edges). m ≡ map.insert c.new-empty.result c.key.result.0 (Key c.without.result)) (AreSlicesAt t 1 (set_at t 2 c.args.edge) c.args.position) c.with.result
    (λ m is. subst (AreSlicesAt t 1 (set_at t 2 c.args.edge) c.args.position) (sym (is ∙ (λ i. map.insert (c.new-empty.ensures i) (c.key.ensures i).0 (Key (c.without.ensures i))))) slices)
    c.with.ensures

pub returns-in-Some-Node : goal.returns-in-Some-Node
returns-in-Some-Node g c =
    let t = c.args.context.now in
    let row : c.in-Some-Node.field-0 ≡ ToRow c.in-Some-Node.row = rw c.in-Some-Node.is at c.in-Some-Node.field-0-is in
    let found = subst (λ (u : Tables). IfSome (row_at u.two c.in-Some-Node.row) (λ r. r.node ≡ c.node.result.now)) c.tables.ensures.same c.node.ensures in
    let node = edge_row g.M.Mix.mixed t c.tables.ensures.kept c.args.edge c.in-Some-Node.field-0 c.in-Some-Node.row c.in-Some-Node.is row c.requires.fits (Full c.in-Full.size c.in-Full.hash c.in-Full.first c.in-Full.second c.in-Full.third)
    (subst (λ n. IfSome (row_at t.two c.in-Some-Node.row) (λ r. r.node ≡ n)) c.in-Full.is found) in
    let slices : AreSlicesAt t 1 (set_at t 2 c.args.edge) c.args.position c.if-position-eq0.share.now = edge_slices t c.args.edge c.in-Some-Node.field-0 c.in-Some-Node.row c.in-Some-Node.is row c.args.position _
    (elim c.if-position-eq0.branch [
      | then-position-eq0 w ↦ slices_as t 1 _ c.args.position 0 c.if-position-eq0.share.now c.in-Full.first w.if-position-eq0.true (λ i. (w.share-is i).now)
          (row_first g.M.Mix.mixed t c.in-Some-Node.row c.in-Full.size c.in-Full.hash c.in-Full.first c.in-Full.second c.in-Full.third node)
      | else-position-eq0 w ↦ slices_as t 1 _ c.args.position 1 c.if-position-eq0.share.now c.in-Full.second (let not = w.if-position-eq0.false in let low = c.requires.position in omega arith) (λ i. (w.share-is i).now)
          (row_second g.M.Mix.mixed t c.in-Some-Node.row c.in-Full.size c.in-Full.hash c.in-Full.first c.in-Full.second c.in-Full.third node)
    ]) in
    if_ok (λ (m : Edges). m ≡ c.if-position-eq0.share.now) (AreSlicesAt t 1 (set_at t 2 c.args.edge) c.args.position) c.share.result
    (λ m is. subst (AreSlicesAt t 1 (set_at t 2 c.args.edge) c.args.position) (sym is) slices)
    c.share.ensures

pub returns : goal.returns
returns g c = slices_as c.args.context.now 1 _ c.args.position c.args.position c.new-empty.result map.empty refl c.new-empty.ensures (empty_slices c.args.context.now 1 _ c.args.position (ap (set_at c.args.context.now 2) c.in-None.is))
