use Rattle.std.proofs.Common.{subst, sym, ap, ◌∙◌, refl}
use Rattle.std.proofs.lemmas.List.{get_or_default}
use Rattle.bag_list.specs.Tracks.{IsStart, AreTracks, IsTrack, rests}
use Rattle.bag_list.proofs.Places.{each_more}
use Rattle.bag_list.proofs.StartLemmas.{no-operand, start-track, started_more}
use Rattle.bag_list.proofs.track.tracks_of.Goals as goal

pub returns-in_default-clause-empty : goal.returns-in_default-clause-empty
returns-in_default-clause-empty g c _ =
    (c.loop-i.i, c.loop-i-test.true, λ s. ap (λ x. x.op) (get_or_default c.args.starts.now c.loop-i.i s c.index-starts-i.result c.loop-i-test.true ∙ sym c.index-starts-i.is) ∙ no-operand c.index-starts-i.result.op c.in_default.not-Some)

pub loop-i-preserved : goal.loop-i-preserved
loop-i-preserved g c =
    let depth_of = g.O.Operand.depth_of in
    let tuples = g.O.Operand.tuples in
    let s = c.index-starts-i.result in
    let start = subst (IsStart depth_of tuples c.args.n) (sym c.index-starts-i.is) (c.requires.starts c.loop-i.i s c.loop-i-test.true) in
    let is = c.in_ok-push.ensures.items in (
      ap (rests tuples) is ∙ started_more depth_of tuples c.args.n s c.in-Some.op _ c.in-Some.is refl start g.met.O.Operand.deep c.args.starts.now c.loop-i.i c.loop-i.tracks.items c.in_ok-of.field-0 c.loop-i-test.true c.index-starts-i.is c.in_ok-of.ensures.start c.loop-i.invariant.0,
      λ fs. subst (AreTracks depth_of tuples c.args.n 1 fs) (sym is)
          (each_more (IsTrack depth_of tuples c.args.n 1 fs) c.loop-i.tracks.items c.in_ok-of.field-0 (c.loop-i.invariant.1 fs)
          (start-track depth_of tuples c.args.n s c.in-Some.op _ c.in-Some.is refl start g.met.O.Operand.deep c.in_ok-of.field-0 c.in_ok-of.ensures.start c.in_ok-of.ensures.room c.in_ok-of.ensures.heights fs)),
    )
