use Rattle.std.proofs.Common.{arith}
use Rattle.std.proofs.lemmas.Result.{on_ok_weaker}
use Rattle.edge_map.proofs.PageLemmas.{opened, opened_some, opened_full}
use Rattle.edge_map.proofs.builder.loosen.Goals as goal

pub returns-in-Some-clause-chunks : goal.returns-in-Some-clause-chunks
returns-in-Some-clause-chunks c =
    let none = c.if-len-gt0.false in
    on_ok_weaker c.append_to.result (opened c.args.pages.now.items _ c.in-Some.page c.args.loose.now.items _ c.in-Some.ensures.items (omega (arith, none, c.len.ensures, c.args.loose.now.ok.0))) c.append_to.ensures

pub returns-in-Some-clause-some : goal.returns-in-Some-clause-some
returns-in-Some-clause-some c =
    on_ok_weaker c.append_to.result (opened_some c.args.pages.now.items _ c.in-Some.page c.args.loose.now.items _ c.requires c.in-Some.ensures.items) c.append_to.ensures

pub returns-in-Some-clause-full : goal.returns-in-Some-clause-full
returns-in-Some-clause-full c = opened_full c.args.pages.now.items _ c.in-Some.page c.requires c.in-Some.ensures.items
