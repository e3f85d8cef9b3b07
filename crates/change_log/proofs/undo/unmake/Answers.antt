use Rattle.std.proofs.Common.{arith, sym, ap, ◌∙◌, ◌≡◌}
use Rattle.trie_context.specs.Holds.{count_of}
use Rattle.trie_context.specs.Rows.{row_of}
use Rattle.change_log.proofs.UndoLemmas.{made_alone, unmade, same_row}
use Rattle.change_log.proofs.undo.unmake.Goals as goal

pub unreachable-requires : goal.unreachable-requires
unreachable-requires g c =
    let u = c.args.context.now in
    let d = g.L.Level.DEPTH in
    let r = c.requires.made in
    let is = same_row c.args.row c.of_edge.result c.of_edge.ensures in
    let few = made_alone g.M.Mix.mixed d g.met.L.Level.depth_low g.met.L.Level.depth_high r.0 u r.1 c.args.row r.2.0 r.2.1 in
    let more = c.in-Err.ensures.shared in
    let same : count_of (row_of u d c.args.row) ≡ count_of (row_of u d c.of_edge.result) = ap (λ q. count_of (row_of u d q)) is in
    omega arith

pub returns : goal.returns
returns g c t kept made =
    let is = same_row c.args.row c.of_edge.result c.of_edge.ensures in
    let e = c.in-Ok.ensures in
    unmade g.M.Mix.mixed g.L.Level.DEPTH g.met.L.Level.depth_low g.met.L.Level.depth_high t c.args.context.now kept c.args.row made.0 made.1
    c.open.new.self c.discard.new.self c.in-Ok.place c.in-Ok.field-0-0 (e.number ∙ sym is) e.opened c.discard.ensures.gone c.discard.ensures.moved
