use Rattle.std.proofs.Common.{arith}
use Rattle.edge_map.proofs.PageLemmas.{key_by, le_of}
use Rattle.edge_map.proofs.pages.is_above.Goals as goal

pub returns-in-Some : goal.returns-in-Some
returns-in-Some c t lt =
    let key = key_by c.args.pages.now c.args.at c.first.result.0 c.in-Some.page.now c.requires lt c.in-Some.ensures.lookup.1 c.first.ensures in
    let above = le_of _ _ t in omega (arith, above, key)
