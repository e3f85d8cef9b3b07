use Rattle.std.proofs.Common.{◌≤◌, sym, subst, arith}
use Rattle.bag_list.specs.Labels.{labels_of, mask_of}
use Rattle.bag_list.specs.Tracks.{IsPart}
use Rattle.bag_list.proofs.TrackLemmas.{part-fits}
use Rattle.bag_list.proofs.track.Track.lacks_key.Goals as goal

pub seek-requires : goal.seek-requires
seek-requires g c = record {
  fits = part-fits g.O.Operand.depth_of g.O.Operand.tuples g.met.O.Operand.deep c.in-Some.label c.mask-mask.result.0 c.at-part.result
      (subst (IsPart g.O.Operand.depth_of g.O.Operand.tuples) (sym (c.at-part.ensures c.at-part.result)) (c.requires.part c.at-part.result))
      c.mask-mask.ensures (let some : 1 ≤ mask_of c.in-Some.label (labels_of c.at-part.result.labels) = c.in-Some.ensures.there in let is = c.mask-mask.ensures in omega (arith, some, is));
}
