use Rattle.std.proofs.Common.{◌<◌, length, sym, subst}
use Rattle.bag_list.specs.Tracks.{parts_of}
use Rattle.bag_list.proofs.TrackLemmas.{part-is}
use Rattle.bag_list.proofs.track.part_of.Goals as goal

pub returns : goal.returns
returns g c =
    let x = c.index-tracks-i.result in
    part-is c.args.tracks.now c.args.depth c.args.i x c.at.result c.requires.there c.index-tracks-i.is
    (subst (λ z. c.args.depth < length (parts_of z)) (sym c.index-tracks-i.is) (c.requires.roomy c.args.i x c.requires.there)) (c.at.ensures c.at.result)
