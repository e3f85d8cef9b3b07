use Rattle.std.proofs.Common.{subst}
use Rattle.bag_list.specs.Tracks.{IsPart}
use Rattle.bag_list.proofs.Places.{element}
use Rattle.bag_list.proofs.TrackLemmas.{part-fits}
use Rattle.bag_list.proofs.track.n_keys.Goals as goal

pub key_count-requires : goal.key_count-requires
key_count-requires g c =
    let q = c.part_of-part.result in
    let t = element c.args.tracks.now c.loop-i.i c.loop-i-test.true in
    record {
      fits = part-fits g.O.Operand.depth_of g.O.Operand.tuples g.met.O.Operand.deep c.args.label c.mask-mask.result.0 q
          (subst (IsPart g.O.Operand.depth_of g.O.Operand.tuples) (c.part_of-part.ensures t q) (c.requires.parts c.loop-i.i t q c.loop-i-test.true))
          c.mask-mask.ensures c.if-mask-gt0.true;
    }
