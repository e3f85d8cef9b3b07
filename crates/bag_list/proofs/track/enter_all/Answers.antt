use Rattle.std.proofs.Common.{◌+◌, slice_index_or, arith, subst, sym}
use Rattle.bag_list.specs.Tracks.{IsSameTo, IsFixed, parts_of}
use Rattle.bag_list.specs.declared.track.Part.{Part}
use Rattle.bag_list.proofs.TrackLemmas.{entered_more}
use Rattle.bag_list.proofs.track.enter_all.Goals as goal

pub loop-i-preserved : goal.loop-i-preserved
loop-i-preserved g c =
    entered_more g.O.Operand.depth_of g.O.Operand.tuples c.args.depth c.args.label c.args.key.0 c.args.tracks.now c.loop-i.tracks c.loop-i.i c.index-tracks-i.result c.enter.new.self
    c.loop-i.auto.tracks (omega arith) c.index-tracks-i.is c.loop-i.invariant
    (subst (λ z. IsSameTo c.args.depth z c.enter.new.self) (sym c.index-tracks-i.is) c.enter.ensures.same) c.enter.ensures.counted
    (subst (λ z. (p : Part _) → IsFixed g.O.Operand.depth_of g.O.Operand.tuples c.args.label c.args.key.0 (slice_index_or (parts_of z) c.args.depth p) (slice_index_or (parts_of c.enter.new.self) (c.args.depth + 1) p)) (sym c.index-tracks-i.is) c.enter.ensures.fixed)
