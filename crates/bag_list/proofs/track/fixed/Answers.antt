use Rattle.std.proofs.Common.{◌≡◌, true, false, sym, ◌∙◌}
use Rattle.bag_list.proofs.PartSets.{long-there}
use Rattle.bag_list.proofs.TrackLemmas.{fixed-last, fixed-slice}
use Rattle.bag_list.proofs.track.fixed.Goals as goal

pub returns-then-is_none : goal.returns-then-is_none
returns-then-is_none g c =
    fixed-last g.O.Operand.depth_of g.O.Operand.tuples g.met.O.Operand.deep c.args.label c.args.key.0 c.args.part c.args.part.op c.without-labels.result c.requires.part
    c.without-labels.ensures (c.is_none.ensures.0 c.if-is_none.true) c.requires.admitted

pub returns : goal.returns
returns g c =
    fixed-slice g.O.Operand.depth_of g.O.Operand.tuples g.met.O.Operand.deep c.args.label c.args.key.0 c.args.mask.0 c.args.part c.in-Some.op c.without-labels.result c.requires.part
    c.requires.mask c.requires.there c.without-labels.ensures
    (long-there _ (λ e. let t : true ≡ false = sym (c.is_none.ensures.1 e) ∙ c.if-is_none.false in cc))
    c.in-Some.ensures.some (λ e. let t : true ≡ false = c.in-Some.ensures.none.1 e in cc) c.in-Some.ensures.depth
