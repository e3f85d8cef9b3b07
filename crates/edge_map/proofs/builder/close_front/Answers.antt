use Rattle.std.proofs.Common.{◌++◌, ◌∙◌, ap}
use Rattle.std.proofs.lemmas.Result.{on_ok_weaker}
use Rattle.edge_map.specs.Pages.{paged}
use Rattle.edge_map.proofs.SplitLemmas.{both_parts}
use Rattle.edge_map.proofs.PageLemmas.{fronted}
use Rattle.edge_map.proofs.builder.close_front.Goals as goal

pub returns-clause-chunks : goal.returns-clause-chunks
returns-clause-chunks c =
    let loose = c.args.loose.now.items in
    let front = ap (λ v. v.items) c.replace-front.ensures.value ∙ c.in_ok-behind.ensures.items in
    let behind = ap (λ v. v.items) c.replace-front.ensures.after ∙ c.in_ok-behind.ensures.tail in
    on_ok_weaker c.close.result (λ is. fronted (paged c.close.new.pages.items) (paged c.args.pages.now.items) _ _ loose is ((λ i. front i ++ behind i) ∙ both_parts 64 loose)) c.close.ensures.chunks
