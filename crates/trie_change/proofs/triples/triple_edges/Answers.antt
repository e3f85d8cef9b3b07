use Rattle.std.proofs.Common.{◌≡◌, sym, subst}
use Rattle.std.proofs.lemmas.Result.{IfOk-weaker}
use Rattle.trie_change.specs.Rooms.{row_set_at, AreSlicesAt}
use Rattle.trie_change.proofs.TripleLemmas.{row_slices, row_maps, empty_slices}
use Rattle.trie_change.proofs.triples.triple_edges.Goals as goal

pub returns-in_default : goal.returns-in_default
returns-in_default g c = subst (λ o. AreSlicesAt c.args.context.now 2 (row_set_at c.args.context.now o) c.args.position c.new-empty.result) (sym c.in_default.is) (empty_slices c.args.context.now 2 c.args.position c.new-empty.result c.new-empty.ensures)

pub returns-in-Some-map : goal.returns-in-Some-map
returns-in-Some-map g c =
    let slices = row_slices c.tables.ensures.kept c.tables.ensures.same c.args.row c.requires.there c.in-Some.row c.in-Some.is c.node.result.now c.node.ensures c.args.position c.requires.position c.in-Some-map.edges.now (sym c.in-Some-map.ensures) in
    IfOk-weaker c.share.result (λ m. m ≡ c.in-Some-map.edges.now) (AreSlicesAt c.args.context.now 2 (row_set_at c.args.context.now c.args.row) c.args.position) (λ m is. subst (AreSlicesAt c.args.context.now 2 (row_set_at c.args.context.now c.args.row) c.args.position) (sym is) slices) c.share.ensures

pub returns-in-None : goal.returns-in-None
returns-in-None g c = absurd (row_maps c.tables.ensures.kept c.tables.ensures.same c.args.row c.requires.there c.in-Some.row c.in-Some.is c.node.result.now c.node.ensures c.args.position (sym c.in-None.ensures))
