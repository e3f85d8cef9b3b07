use Rattle.trie_context.proofs.OpenLemmas.{closed, no_such_node}
use Rattle.trie_context.proofs.opened.close_row.Goals as goal

pub put_back-requires-clause-new : goal.put_back-requires-clause-new
put_back-requires-clause-new g c =
    no_such_node g.M.Mix.mixed c.args.tables.now c.requires.kept c.args.depth c.requires.low c.requires.high c.args.node c.requires.none

pub returns : goal.returns
returns g c =
    let t = c.args.tables.now in
    let r = c.requires in
    let none = no_such_node g.M.Mix.mixed t r.kept c.args.depth r.low r.high c.args.node r.none in
    record {
      closed = closed g.M.Mix.mixed t r.kept c.args.depth r.low r.high c.args.spot c.args.node c.put_back.ensures.fresh r.form r.hashed none r.held c.put_back.new.self c.put_back.ensures.back;
    }
