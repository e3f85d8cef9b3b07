use Rattle.std.proofs.Common.{◌≡◌, arith, get_or, subst, sym, ap, ◌∙◌, []}
use Rattle.edge_map.specs.Entries.{KeysRise}
use Rattle.edge_map.specs.Chunks.{flat, seek_in, AreSized}
use Rattle.edge_map.proofs.PlaceLemmas.{ltb_is}
use Rattle.edge_map.proofs.PageLemmas.{at_default, none_by, get_by, rise_at, sized_at}
use Rattle.edge_map.proofs.pages.seek_one.Goals as goal
use Rattle.edge_map.proofs.pages.seek_one.Goals.{After-as_slice}

page_is : (c : After-as_slice) → c.as_slice.result.now ≡ get_or c.args.pages.now c.args.at []
page_is c = c.as_slice.ensures ∙ at_default c.args.pages.now c.args.at c.in-Some.page.now [] (ltb_is _ _ (sym c.in-Some.ensures.lookup.0)) c.in-Some.ensures.lookup.1

pub seek-requires-clause-rising : goal.seek-requires-clause-rising
seek-requires-clause-rising c = subst (λ cs. KeysRise (flat cs)) (sym (page_is c)) (rise_at c.args.pages.now c.args.at c.requires.rising)

pub seek-requires-clause-sized : goal.seek-requires-clause-sized
seek-requires-clause-sized c = subst AreSized (sym (page_is c)) (sized_at c.args.pages.now c.args.at c.requires.sized)

pub returns-in-Some : goal.returns-in-Some
returns-in-Some c =
    let is = c.as_slice.ensures ∙ at_default c.args.pages.now c.args.at c.in-Some.page.now [] (ltb_is _ _ (sym c.in-Some.ensures.lookup.0)) c.in-Some.ensures.lookup.1 in
    c.seek.ensures ∙ ap (seek_in c.args.from.0) (ap flat is ∙ sym (get_by c.args.pages.now c.args.at))

pub returns-in-None : goal.returns-in-None
returns-in-None c = ap (seek_in c.args.from.0) (sym (none_by c.args.pages.now c.args.at (let none = c.in-None.ensures.lookup in omega (arith, none))))
