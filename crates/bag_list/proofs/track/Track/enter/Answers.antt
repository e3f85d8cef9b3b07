use Rattle.std.proofs.Common.{◌+◌, ◌<◌, length, slice_index_or, sym, ◌∙◌, ap, subst, arith}
use Rattle.bag_list.specs.Labels.{labels_of}
use Rattle.bag_list.specs.Tracks.{AdmitsAt, IsFixed, IsPart, parts_of}
use Rattle.bag_list.proofs.CountedLemmas.{counted-heightened, few-here, fewer-left, height-here, n-parts, part-behind, same-heightened, slot-here}
use Rattle.bag_list.proofs.PartSets.{mask-long}
use Rattle.bag_list.proofs.TrackLemmas.{fixed-nowhere}
use Rattle.bag_list.proofs.track.Track.enter.Goals as goal

pub index-height-requires : goal.index-height-requires
index-height-requires g c =
    let n = n-parts c.args.self.now in
    let is = c.args.self.now.heights.ok.0 in
    let room = c.requires.room in
    omega (arith, n, is, room)

pub overflow_add-depth : goal.overflow_add-depth
overflow_add-depth g c =
    let n = n-parts c.args.self.now in
    let is = c.args.self.now.heights.ok.0 in
    let room = c.requires.room in
    omega (arith, n, is, room)

pub overflow_add-depth-2 : goal.overflow_add-depth-2
overflow_add-depth-2 g c =
    let n = n-parts c.args.self.now in
    let is = c.args.self.now.heights.ok.0 in
    let room = c.requires.room in
    omega (arith, n, is, room)

pub overflow_add-higher : goal.overflow_add-higher
overflow_add-higher g c =
    let few = few-here c.args.self.now c.args.depth c.index-height.result.now c.at-part.result (let room = c.requires.room in omega (arith, room)) c.index-height.ensures (c.at-part.ensures c.at-part.result) c.requires.counted in
    omega (arith, few)

pub put-requires-clause-high : goal.put-requires-clause-high
put-requires-clause-high g c =
    let few = few-here c.args.self.now c.args.depth c.index-height.result.now c.at-part.result (let room = c.requires.room in omega (arith, room)) c.index-height.ensures (c.at-part.ensures c.at-part.result) c.requires.counted in
    let long = mask-long c.args.label (labels_of c.at-part.result.labels) (let is = c.mask-mask.ensures in let none = c.if-mask-eq0.false in omega (arith, is, none)) in
    omega (arith, few, long)

pub fixed-left-requires-clause-part : goal.fixed-left-requires-clause-part
fixed-left-requires-clause-part g c = subst (IsPart g.O.Operand.depth_of g.O.Operand.tuples) (sym (c.at-part.ensures c.at-part.result)) (c.requires.part c.at-part.result)

pub fixed-left-requires-clause-admitted : goal.fixed-left-requires-clause-admitted
fixed-left-requires-clause-admitted g c = subst (λ q. AdmitsAt g.O.Operand.tuples c.args.label q c.args.key.0) (sym (c.at-part.ensures c.at-part.result)) (c.requires.admitted c.at-part.result)

-- the label stands nowhere

pub returns-then-mask-eq0-clause-same : goal.returns-then-mask-eq0-clause-same
returns-then-mask-eq0-clause-same g c =
    same-heightened c.args.depth c.args.self.now c.set_height.new.self c.index-height.result.now c.requires.room c.requires.counted c.set_height.ensures.start c.set_height.ensures.heights (λ h _. c.set_height.ensures.slots h)

pub returns-then-mask-eq0-clause-counted : goal.returns-then-mask-eq0-clause-counted
returns-then-mask-eq0-clause-counted g c =
    let t = c.args.self.now in
    let h = c.index-height.result.now in
    let within : c.args.depth < length (parts_of c.args.self.now) = let room = c.requires.room in omega (arith, room) in
    let few = few-here t c.args.depth h c.at-part.result within c.index-height.ensures (c.at-part.ensures c.at-part.result) c.requires.counted in
    let slot = c.set_height.ensures.slots h ∙ slot-here t c.args.depth h c.at-part.result within c.index-height.ensures (c.at-part.ensures c.at-part.result) in
    counted-heightened c.args.depth t c.set_height.new.self h c.requires.room c.requires.counted c.set_height.ensures.start c.set_height.ensures.heights (λ k _. c.set_height.ensures.slots k)
    (let is = height-here t c.args.depth h c.at-part.result within c.index-height.ensures (c.at-part.ensures c.at-part.result) in omega (arith, is))
    (let n = ap (λ q. length (labels_of q.labels)) slot in omega (arith, few, n))

pub returns-then-mask-eq0-clause-fixed : goal.returns-then-mask-eq0-clause-fixed
returns-then-mask-eq0-clause-fixed g c p =
    let t = c.args.self.now in
    let h = c.index-height.result.now in
    let within : c.args.depth < length (parts_of c.args.self.now) = let room = c.requires.room in omega (arith, room) in
    let slot = c.set_height.ensures.slots h ∙ slot-here t c.args.depth h c.at-part.result within c.index-height.ensures (c.at-part.ensures c.at-part.result) in
    subst (λ q. IsFixed g.O.Operand.depth_of g.O.Operand.tuples c.args.label c.args.key.0 q (slice_index_or (parts_of c.set_height.new.self) (c.args.depth + 1) p)) (c.at-part.ensures p)
    (subst (IsFixed g.O.Operand.depth_of g.O.Operand.tuples c.args.label c.args.key.0 c.at-part.result)
    (sym (part-behind c.args.depth t c.set_height.new.self h c.requires.room c.requires.counted c.set_height.ensures.start c.set_height.ensures.heights (λ k _. c.set_height.ensures.slots k) p ∙ slot))
    (fixed-nowhere g.O.Operand.depth_of g.O.Operand.tuples g.met.O.Operand.deep c.args.label c.args.key.0 c.at-part.result
    (subst (IsPart g.O.Operand.depth_of g.O.Operand.tuples) (sym (c.at-part.ensures c.at-part.result)) (c.requires.part c.at-part.result))
    (sym c.mask-mask.ensures ∙ c.if-mask-eq0.true)))

-- one label more is fixed

pub returns-clause-same : goal.returns-clause-same
returns-clause-same g c =
    let t = c.args.self.now in
    let h = c.index-height.result.now in
    let is = height-here t c.args.depth h c.at-part.result (let room = c.requires.room in omega (arith, room)) c.index-height.ensures (c.at-part.ensures c.at-part.result) in
    same-heightened c.args.depth t c.put.new.self (h + 1) c.requires.room c.requires.counted (c.put.ensures.start ∙ c.set_height-2.ensures.start) (ap (λ v. v.items) c.put.ensures.heights ∙ c.set_height-2.ensures.heights)
    (λ k le. c.put.ensures.below k (omega (arith, is, le)) ∙ c.set_height-2.ensures.slots k)

pub returns-clause-counted : goal.returns-clause-counted
returns-clause-counted g c =
    let t = c.args.self.now in
    let h = c.index-height.result.now in
    let within : c.args.depth < length (parts_of c.args.self.now) = let room = c.requires.room in omega (arith, room) in
    let is = height-here t c.args.depth h c.at-part.result within c.index-height.ensures (c.at-part.ensures c.at-part.result) in
    let few = few-here t c.args.depth h c.at-part.result within c.index-height.ensures (c.at-part.ensures c.at-part.result) c.requires.counted in
    counted-heightened c.args.depth t c.put.new.self (h + 1) c.requires.room c.requires.counted (c.put.ensures.start ∙ c.set_height-2.ensures.start) (ap (λ v. v.items) c.put.ensures.heights ∙ c.set_height-2.ensures.heights)
    (λ k le. c.put.ensures.below k (omega (arith, is, le)) ∙ c.set_height-2.ensures.slots k)
    (omega (arith, is))
    (let fewer = fewer-left c.args.label (labels_of c.at-part.result.labels) (let mask = c.mask-mask.ensures in let none = c.if-mask-eq0.false in omega (arith, mask, none)) in
    let left = ap length c.fixed-left.ensures.labels in
    let n = ap (λ q. length (labels_of q.labels)) c.put.ensures.here in
    omega (arith, few, fewer, left, n))

pub returns-clause-fixed : goal.returns-clause-fixed
returns-clause-fixed g c p =
    let t = c.args.self.now in
    let h = c.index-height.result.now in
    let is = height-here t c.args.depth h c.at-part.result (let room = c.requires.room in omega (arith, room)) c.index-height.ensures (c.at-part.ensures c.at-part.result) in
    subst (λ q. IsFixed g.O.Operand.depth_of g.O.Operand.tuples c.args.label c.args.key.0 q (slice_index_or (parts_of c.put.new.self) (c.args.depth + 1) p)) (c.at-part.ensures p)
    (subst (IsFixed g.O.Operand.depth_of g.O.Operand.tuples c.args.label c.args.key.0 c.at-part.result)
    (sym (part-behind c.args.depth t c.put.new.self (h + 1) c.requires.room c.requires.counted (c.put.ensures.start ∙ c.set_height-2.ensures.start) (ap (λ v. v.items) c.put.ensures.heights ∙ c.set_height-2.ensures.heights)
    (λ k le. c.put.ensures.below k (omega (arith, is, le)) ∙ c.set_height-2.ensures.slots k) p ∙ c.put.ensures.here))
    c.fixed-left.ensures)
