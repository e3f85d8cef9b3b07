use Rattle.std.proofs.Common.{◌≡◌, ◌+◌, [], ◌∷◌, length, ap, sym, ◌∙◌, subst, arith, slice_index_or}
use Rattle.std.proofs.lemmas.List.{length-append}
use Rattle.bag_list.specs.Joins.{HasRoom}
use Rattle.bag_list.proofs.Places.{each_more}
use Rattle.bag_list.proofs.join.joins_of.Goals as goal

pub loop-level-preserved : goal.loop-level-preserved
loop-level-preserved g c =
    let is = c.in_ok-push.ensures.items in
    let n : length c.loop-level.joins.items ≡ c.loop-level._level = c.loop-level.invariant.0 in
    let long : length c.push.new.self.items ≡ length c.loop-level.joins.items + 1 = ap length is ∙ length-append c.loop-level.joins.items (c.in_ok-of.field-0 ∷ []) in (
      omega (arith, long, n),
      λ i j lt. subst (λ xs. HasRoom (length c.args.tracks.now) (slice_index_or xs i j)) (sym is)
          (each_more (HasRoom (length c.args.tracks.now)) c.loop-level.joins.items c.in_ok-of.field-0 (λ i j low. c.loop-level.invariant.1 i j (omega (arith, low, n))) c.in_ok-of.ensures i j (let more = length-append c.loop-level.joins.items (c.in_ok-of.field-0 ∷ []) in omega (arith, lt, more, n))),
    )
