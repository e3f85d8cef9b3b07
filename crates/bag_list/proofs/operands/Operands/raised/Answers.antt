use Rattle.std.proofs.Common.{◌≤◌, None, IfSome, slice_index_or, refl, sym, ◌∙◌, ap, subst, arith}
use Rattle.std.proofs.lemmas.List.{get_or_default}
use Rattle.bag_list.specs.declared.level.Level.{Level}
use Rattle.bag_list.specs.Operands.{AreReady}
use Rattle.bag_list.specs.Tracks.{AreParts}
use Rattle.bag_list.proofs.ThroughLemmas.{IsRaised, IsReached, kept-twice, level-at, raised-more, raised-reached, same-itself}
use Rattle.bag_list.proofs.operands.Operands.raised.Goals.{then-n_keys-tested+in_ok-next, else-n_keys-tested}
use Rattle.bag_list.proofs.operands.Operands.raised.Goals as goal

abbrev no_level : Level
no_level = record { label = 0; key = record { 0 = 0 }; from = None }

pub loop-i-init : goal.loop-i-init
loop-i-init g c = record {
  raised = record {
    same = same-itself c.args.depth c.args.self.now.tracks.items;
    above = omega arith;
    least = λ n q f below s le. le;
  };
  joins = refl;
  ready = c.requires.ready;
}

pub returns-in_err-next-clause-least : goal.returns-in_err-next-clause-least
returns-in_err-next-clause-least g c n k f below s le =
    let level = slice_index_or c.args.levels.now c.args.depth no_level in
    subst (λ b. IsReached b k) (c.in_err-next.was ∙ sym c.from_residual.ensures)
    (raised-reached g.O.Operand.tuples c.args.levels.now c.args.self.now.tracks.items c.loop-i.self.tracks.items c.args.depth c.args.key.0 c.loop-i.next.0 c.loop-i.invariant.raised
    level.label (slice_index_or c.args.levels.now c.loop-i.i no_level).label
    (λ h. ap (λ x. x.label) (level-at c.args.levels.now c.args.depth level (get_or_default c.args.levels.now c.args.depth no_level level c.requires.within.0) c.requires.within.0 h))
    (λ m listed. listed c.loop-i.i no_level (omega arith))
    c.least_through.result c.least_through.ensures.least n k f below s le)

pub returns-in_err-next-clause-kept : goal.returns-in_err-next-clause-kept
returns-in_err-next-clause-kept g c =
    kept-twice g.O.Operand.depth_of g.O.Operand.tuples c.args.depth c.args.self.now c.loop-i.self c.least_through.new.self c.loop-i.invariant.raised.same c.loop-i.invariant.joins c.least_through.ensures.kept

pub loop-i-preserved : goal.loop-i-preserved
loop-i-preserved g c =
    let tuples = g.O.Operand.tuples in
    let levels = c.args.levels.now in
    let old = c.args.self.now.tracks.items in
    let depth = c.args.depth in
    let from = c.args.key.0 in
    let level = slice_index_or levels depth no_level in
    elim c.if-n_keys-tested.branch [
      | then-n_keys-tested+in_ok-next w ↦ record {
        raised =
            subst (λ ts. IsRaised tuples levels old ts.tracks.items depth from c.if-n_keys-tested.next.0) (sym w.self-is)
            (subst (λ x. IsRaised tuples levels old w.least_through.new.self.tracks.items depth from x.0) (sym w.next-is)
            (raised-more tuples levels old c.loop-i.self.tracks.items depth from c.loop-i.next.0 c.loop-i.invariant.raised
            level.label (slice_index_or levels c.loop-i.i no_level).label
            (λ h. ap (λ x. x.label) (level-at levels depth level (get_or_default levels depth no_level level c.requires.within.0) c.requires.within.0 h))
            (λ m listed. listed c.loop-i.i no_level (omega arith))
            w.least_through.result w.least_through.ensures.least _ w.least_through.new.self.tracks.items w.in_ok-next.was
            (subst (λ b. IfSome b (λ r. c.loop-i.next.0 ≤ r.0)) w.in_ok-next.was w.least_through.ensures.from)
            w.least_through.ensures.kept.same));
        joins = ap (λ x. x.joins) w.self-is ∙ w.least_through.ensures.kept.joins ∙ c.loop-i.invariant.joins;
        ready = subst (AreReady g.O.Operand.depth_of tuples depth) (sym w.self-is) w.least_through.ensures.kept.ready;
      }
      | else-n_keys-tested w ↦ record {
        raised =
            subst (λ ts. IsRaised tuples levels old ts.tracks.items depth from c.if-n_keys-tested.next.0) (sym w.self-is)
            (subst (λ x. IsRaised tuples levels old c.loop-i.self.tracks.items depth from x.0) (sym w.next-is) c.loop-i.invariant.raised);
        joins = ap (λ x. x.joins) w.self-is ∙ c.loop-i.invariant.joins;
        ready = subst (AreReady g.O.Operand.depth_of tuples depth) (sym w.self-is) c.loop-i.invariant.ready;
      }
    ]

pub n_keys-requires-clause-parts : goal.n_keys-requires-clause-parts
n_keys-requires-clause-parts g c = subst (AreParts g.O.Operand.depth_of g.O.Operand.tuples c.args.depth) (sym c.deref.ensures.value) c.loop-i.invariant.ready.parts
