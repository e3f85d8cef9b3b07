use Rattle.std.proofs.Common.{sym, ◌∙◌, ap, arith}
use Rattle.std.proofs.lemmas.List.{get_or_default}
use Rattle.bag_list.specs.Tracks.{slot_of}
use Rattle.bag_list.proofs.CountedLemmas.{n-parts, part-slot}
use Rattle.bag_list.proofs.track.Track.at.Goals as goal

pub index-requires : goal.index-requires
index-requires g c =
    let n = n-parts c.args.self.now in
    let is = c.args.self.now.heights.ok.0 in
    let within = c.requires in
    omega (arith, n, is, within)

pub returns : goal.returns
returns g c p =
    let n = n-parts c.args.self.now in
    let within = c.requires in
    c.slot.ensures ∙ ap (slot_of c.args.self.now) (c.index.ensures ∙ get_or_default c.args.self.now.heights.items c.args.depth _ _ (omega (arith, n, within)))
    ∙ sym (part-slot c.args.self.now c.args.depth p c.requires)
