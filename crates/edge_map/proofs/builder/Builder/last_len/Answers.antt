use Rattle.std.proofs.Common.{◌≡◌, ◌<◌, ◌-◌, ◌∙◌, sym, ap, subst, get_or, length, arith}
use Rattle.edge_map.specs.Chunks.{last_size}
use Rattle.edge_map.specs.Pages.{paged}
use Rattle.edge_map.proofs.PlaceLemmas.{ltb_is}
use Rattle.edge_map.proofs.PageLemmas.{last_loose, last_page}
use Rattle.edge_map.proofs.builder.Builder.last_len.Goals as goal

pub returns-then-len-gt0-clause-size : goal.returns-then-len-gt0-clause-size
returns-then-len-gt0-clause-size c =
    let some = c.if-len-gt0.true in
    c.last_of.ensures.size ∙ ap last_size c.deref.ensures.value ∙ last_loose (paged c.self.inside.pages.items) c.self.inside.loose.items c.args.self.now c.self.view_is (omega (arith, some, c.len.ensures, c.self.inside.loose.ok.0))

pub returns-in-Some-clause-size : goal.returns-in-Some-clause-size
returns-in-Some-clause-size c =
    let none = c.if-len-gt0.false in
    let page = c.in-Some.page.now in
    let some = subst (λ ps. 0 < length ps) c.deref-2.ensures.value (ltb_is 0 (length c.deref-2.result.now) (sym c.in-Some.ensures.item.0)) in
    let last = subst (λ ps. page ≡ get_or ps (length ps - 1) page) c.deref-2.ensures.value c.in-Some.ensures.item.1 in
    c.last_of-in-Some.ensures.size ∙ ap last_size c.as_slice.ensures
    ∙ last_page c.self.inside.pages.items c.self.inside.loose.items c.args.self.now page c.self.invariant c.self.view_is (omega (arith, none, c.len.ensures, c.self.inside.loose.ok.0)) some last
