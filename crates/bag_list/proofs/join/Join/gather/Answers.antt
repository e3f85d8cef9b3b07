use Rattle.std.proofs.Common.{◌≡◌, length, sym, ◌∙◌, ap, arith}
use Rattle.std.proofs.lemmas.List.{with_items_is}
use Rattle.bag_list.proofs.JoinLemmas.{join-gathered}
use Rattle.bag_list.proofs.join.Join.gather.Goals as goal

pub returns-clause-join : goal.returns-clause-join
returns-clause-join g c =
    let s = c.args.self.now in
    let made = c.gather-self in
    let ops : length made.new.ops ≡ length s.ops.items = made.auto.ops ∙ ap length c.deref_mut.ensures.value in
    let masks : length made.new.masks ≡ length s.masks.items = made.auto.masks ∙ ap length c.deref_mut-2.ensures.value in
    let le = made.ensures.within in
    let o = c.requires.room.ops in
    let m = c.requires.room.masks in
    join-gathered g.O.Operand.depth_of g.O.Operand.tuples c.args.tracks.now c.args.depth c.args.label _ made.new.ops made.new.masks (with_items_is s.ops made.new.ops (ops ∙ sym s.ops.ok.0)) (with_items_is s.masks made.new.masks (masks ∙ sym s.masks.ok.0))
    (omega (arith, le, ops, o)) (omega (arith, le, masks, m)) made.ensures.fit made.ensures.asked made.ensures.whole
