use Rattle.std.proofs.Common.{◌++◌, ◌∙◌, ap}
use Rattle.edge_map.specs.Pages.{paged}
use Rattle.edge_map.proofs.PageLemmas.{pushed_full, page_behind}
use Rattle.edge_map.proofs.builder.Builder.push_page.Goals as goal

pub invariant_of-self-2 : goal.invariant_of-self-2
invariant_of-self-2 c = pushed_full _ _ _ c.args.page.now c.close.ensures.full c.requires c.in_ok-push.ensures.items c.in_ok-share.ensures

pub returns : goal.returns
returns c =
    let closed = c.in_ok-close.ensures.chunks ∙ ap (λ v. paged c.self.inside.pages.items ++ v.items) c.replace-loose.ensures.value in
    page_behind c.self.inside.pages.items _ _ c.self.inside.loose.items _ c.args.self.now c.args.page.now _ c.self.view_is closed c.in_ok-push.ensures.items c.in_ok-share.ensures (ap (λ v. v.items) c.replace-loose.ensures.after ∙ c.new.ensures.items)
