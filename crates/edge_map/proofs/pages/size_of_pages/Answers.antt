use Rattle.std.proofs.Common.{◌≡◌, ◌+◌, ◌∙◌, sym, ap, length, get_or, arith, []}
use Rattle.edge_map.specs.Chunks.{flat}
use Rattle.edge_map.specs.Pages.{by_page}
use Rattle.edge_map.proofs.JoinLemmas.{total_next, total_within}
use Rattle.edge_map.proofs.PageLemmas.{at_default, get_by, length_by, flat_paged, page_within, take_all}
use Rattle.edge_map.proofs.pages.size_of_pages.Goals as goal
use Rattle.edge_map.proofs.pages.size_of_pages.Goals.{After-size-size}

size_is : (c : After-size-size) → c.size-size.result ≡ length (get_or (by_page c.args.pages.now) c.loop-page.page-index [])
size_is c =
    let ps = c.args.pages.now in
    let i = c.loop-page.page-index in
    let is = ap (λ cs. length (flat cs)) (at_default ps i c.page-item.result [] c.loop-page-test.true c.page-item.is) in
    let within = page_within ps i in
    let few = c.requires in
    c.size-size.ensures (omega (arith, is, within, few)) ∙ is ∙ sym (ap length (get_by ps i))

pub overflow_add-size : goal.overflow_add-size
overflow_add-size c =
    let ps = c.args.pages.now in
    let i = c.loop-page.page-index in
    let there = c.loop-page-test.true in
    let next = total_next [] (by_page ps) i c.loop-page.size c.size-size.result (let all = length_by ps in omega (arith, all, there)) c.loop-page.invariant (size_is c) in
    let within = total_within (by_page ps) (i + 1) in
    let whole = ap length (flat_paged ps) in
    let few = c.requires in
    omega (arith, next, within, whole, few)

pub loop-page-preserved : goal.loop-page-preserved
loop-page-preserved c =
    let ps = c.args.pages.now in
    let there = c.loop-page-test.true in
    total_next [] (by_page ps) c.loop-page.page-index c.loop-page.size c.size-size.result (let all = length_by ps in omega (arith, all, there)) c.loop-page.invariant (size_is c)

pub returns : goal.returns
returns c =
    let ps = c.args.pages.now in
    let end = c.loop-page-test.false in
    c.loop-page.invariant ∙ ap (λ cs. length (flat cs)) (take_all (by_page ps) c.loop-page.page-index (let all = length_by ps in omega (arith, all, end))) ∙ sym (ap length (flat_paged ps))
