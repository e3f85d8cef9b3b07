use Rattle.std.proofs.Common.{◌-◌, arith}
use Rattle.edge_map.proofs.PageLemmas.{key_by, lt_of}
use Rattle.edge_map.proofs.pages.last_is_below.Goals as goal

pub returns : goal.returns
returns c t some =
    let n = c.args.n in
    let within = c.requires.within in
    let key = key_by c.args.pages.now (n - 1) c.first.result.0 c.index-pages-n.result c.requires.sized (omega (arith, some, within)) c.index-pages-n.is c.first.ensures in
    let below = lt_of _ _ t in omega (arith, below, key)
