use Rattle.trie_context.proofs.OpenLemmas.{taken}
use Rattle.trie_context.proofs.opened.open_row.Goals as goal

pub returns-clause-opened : goal.returns-clause-opened
returns-clause-opened g c =
    let e = c.take_out.ensures in
    taken g.M.Mix.mixed c.args.tables.now c.requires.kept c.args.depth c.requires.low c.requires.high c.args.row c.requires.held c.count.result c.count.ensures c.if-count-gt-ALONE.false
    c.take_out.result.0 c.take_out.result.1 e.number e.node e.hash e.free c.take_out.new.self e.gone
