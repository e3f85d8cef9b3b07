use Rattle.std.proofs.Common.{◌+◌, slice_set, sym, ◌∙◌, subst, arith}
use Rattle.bag_list.specs.Tracks.{IsPart}
use Rattle.bag_list.proofs.Places.{element}
use Rattle.bag_list.proofs.TrackLemmas.{gathered_equal, gathered_more, gathered_same}
use Rattle.bag_list.proofs.join.gather.Goals.{then-mask-gt0, else-mask-gt0}
use Rattle.bag_list.proofs.join.gather.Goals as goal

pub loop-i-preserved : goal.loop-i-preserved
loop-i-preserved g c =
    let depth_of = g.O.Operand.depth_of in
    let tuples = g.O.Operand.tuples in
    let tracks = c.args.tracks.now in
    let i = c.loop-i.i in
    let q = c.part_of-part.result in
    let x = element tracks i c.loop-i-test.true in
    let is = c.part_of-part.ensures in
    elim c.if-mask-gt0.branch [
      | then-mask-gt0 w ↦
          gathered_equal depth_of tuples tracks c.args.depth c.args.label (slice_set c.loop-i.ops c.loop-i.count q.op) c.if-mask-gt0.ops (slice_set c.loop-i.masks c.loop-i.count c.mask-mask.result) c.if-mask-gt0.masks (c.loop-i.count + 1) c.if-mask-gt0.count (i + 1) (w.ops-is ∙ w.put.ensures.ops) (w.masks-is ∙ w.put.ensures.masks) w.count-is
          (gathered_more depth_of tuples tracks c.args.depth c.args.label c.loop-i.ops c.loop-i.masks c.loop-i.count i x q c.mask-mask.result is c.mask-mask.ensures c.loop-i.invariant
          (subst (IsPart depth_of tuples) (is x q) (c.requires.parts i x q c.loop-i-test.true)) w.if-mask-gt0.true
          (let le = c.loop-i.invariant.within in let n = c.loop-i.auto.ops in let m = c.requires.ops in omega (arith, le, n, m)) (c.loop-i.auto.ops ∙ c.requires.ops ∙ sym c.requires.masks ∙ sym c.loop-i.auto.masks))
      | else-mask-gt0 w ↦
          gathered_equal depth_of tuples tracks c.args.depth c.args.label c.loop-i.ops c.if-mask-gt0.ops c.loop-i.masks c.if-mask-gt0.masks c.loop-i.count c.if-mask-gt0.count (i + 1) w.ops-is w.masks-is w.count-is
          (gathered_same depth_of tuples tracks c.args.depth c.args.label c.loop-i.ops c.loop-i.masks c.loop-i.count i x q c.mask-mask.result is c.mask-mask.ensures c.loop-i.invariant w.if-mask-gt0.false)
    ]

pub returns-clause-asked : goal.returns-clause-asked
returns-clause-asked g c k admit = c.loop-i.invariant.asked k (λ i t p lt. admit i t p (let end = c.loop-i.auto.i-end in omega (arith, lt, end)))

pub returns-clause-whole : goal.returns-clause-whole
returns-clause-whole g c k admit i t p lt = c.loop-i.invariant.whole k admit i t p (omega (arith, lt, c.loop-i-test.false))
