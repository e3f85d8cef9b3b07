use Rattle.std.proofs.Common.{◌<◌, ◌≤◌, arith, get_or, length, sym, subst, ◌∙◌, ap, []}
use Rattle.edge_map.specs.Entries.{KeysRise}
use Rattle.edge_map.specs.Chunks.{first_key, seek_in}
use Rattle.edge_map.specs.Pages.{by_page}
use Rattle.edge_map.proofs.ChunkLemmas.{first_of, seek_first, seek_two}
use Rattle.edge_map.proofs.PageLemmas.{flat_paged, some_by, one_page}
use Rattle.edge_map.proofs.pages.seek_paged.Goals as goal

pub returns-then-behind-eq0 : goal.returns-then-behind-eq0
returns-then-behind-eq0 c =
    let ps = c.args.pages.now in
    let cs = by_page ps in
    let from = c.args.from.0 in
    let none = c.if-behind-eq0.true in
    c.seek_one-then-behind-eq0.ensures ∙ sym (seek_first from cs (some_by ps c.requires.sized c.requires.full) (λ some. subst (λ n. n < length cs → from ≤ first_key (get_or cs n [])) none c.n_below-behind.ensures.behind some)) ∙ ap (seek_in from) (sym (flat_paged ps))

pub returns-in-Some : goal.returns-in-Some
returns-in-Some c =
    let ps = c.args.pages.now in
    let cs = by_page ps in
    let from = c.args.from.0 in
    let n = c.n_below-behind.result in
    let parts = c.n_below-behind.ensures in
    let two = seek_two from n cs (let some = c.if-behind-eq0.false in omega (arith, some)) (some_by ps c.requires.sized c.requires.full) (subst KeysRise (flat_paged ps) c.requires.rising) parts.within parts.before parts.behind in
    ap (λ o. first_of o (seek_in from (get_or cs n []))) (sym c.in-Some.is ∙ c.seek_one-2.ensures) ∙ sym two ∙ ap (seek_in from) (sym (flat_paged ps))

pub returns-in-None : goal.returns-in-None
returns-in-None c =
    let ps = c.args.pages.now in
    let cs = by_page ps in
    let from = c.args.from.0 in
    let n = c.n_below-behind.result in
    let parts = c.n_below-behind.ensures in
    let two = seek_two from n cs (let some = c.if-behind-eq0.false in omega (arith, some)) (some_by ps c.requires.sized c.requires.full) (subst KeysRise (flat_paged ps) c.requires.rising) parts.within parts.before parts.behind in
    c.seek_one-in-None.ensures ∙ ap (λ o. first_of o (seek_in from (get_or cs n []))) (sym c.in-None.is ∙ c.seek_one-2.ensures) ∙ sym two ∙ ap (seek_in from) (sym (flat_paged ps))

pub returns-then-pages-eq1 : goal.returns-then-pages-eq1
returns-then-pages-eq1 c = c.seek_one.ensures ∙ ap (seek_in c.args.from.0) (sym (one_page c.args.pages.now c.if-pages-eq1.true))
