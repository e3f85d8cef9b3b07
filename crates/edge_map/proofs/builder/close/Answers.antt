use Rattle.std.proofs.Common.{arith}
use Rattle.edge_map.proofs.PageLemmas.{pushed_page, pushed_full}
use Rattle.edge_map.proofs.builder.close.Goals as goal

pub returns-clause-chunks : goal.returns-clause-chunks
returns-clause-chunks c = pushed_page _ _ _ _ c.in_ok-push.ensures.items c.in_ok-of.ensures

pub returns-clause-full : goal.returns-clause-full
returns-clause-full c =
    let some = c.if-len-eq0.false in
    pushed_full _ _ _ c.args.run.items c.requires (omega (arith, some, c.len.ensures, c.args.run.ok.0)) c.in_ok-push.ensures.items c.in_ok-of.ensures
