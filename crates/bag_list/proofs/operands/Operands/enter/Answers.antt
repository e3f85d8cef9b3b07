use Rattle.std.proofs.Common.{◌+◌, refl, sym, ◌∙◌, subst}
use Rattle.std.proofs.lemmas.List.{with_items_is}
use Rattle.bag_list.specs.Tracks.{AreCounted, AreFixed, AreSameTo}
use Rattle.bag_list.proofs.ThroughLemmas.{ready-same}
use Rattle.bag_list.proofs.operands.Operands.enter.Goals as goal

pub returns-clause-kept : goal.returns-clause-kept
returns-clause-kept g c =
    let s = c.args.self.now in
    let same = subst (λ ts. AreSameTo c.args.depth ts c.enter_all.new.tracks) c.deref_mut.ensures.value c.enter_all.ensures.same in
    let items = with_items_is s.tracks c.enter_all.new.tracks (same.number ∙ sym s.tracks.ok.0) in
    let kept = subst (AreSameTo c.args.depth s.tracks.items) (sym items) same in
    record {
      same = kept;
      joins = refl;
      ready = ready-same g.O.Operand.depth_of g.O.Operand.tuples c.args.depth s _ c.requires.ready kept refl refl refl;
    }

pub returns-clause-entered : goal.returns-clause-entered
returns-clause-entered g c =
    let s = c.args.self.now in
    let same = subst (λ ts. AreSameTo c.args.depth ts c.enter_all.new.tracks) c.deref_mut.ensures.value c.enter_all.ensures.same in
    let items = with_items_is s.tracks c.enter_all.new.tracks (same.number ∙ sym s.tracks.ok.0) in (
      subst (AreFixed g.O.Operand.depth_of g.O.Operand.tuples c.args.depth c.args.level.label c.args.level.key.0 s.tracks.items) (sym items)
          (subst (λ ts. AreFixed g.O.Operand.depth_of g.O.Operand.tuples c.args.depth c.args.level.label c.args.level.key.0 ts c.enter_all.new.tracks) c.deref_mut.ensures.value c.enter_all.ensures.fixed),
      subst (AreCounted (c.args.depth + 1)) (sym items) c.enter_all.ensures.counted,
    )
