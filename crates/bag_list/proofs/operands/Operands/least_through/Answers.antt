use Rattle.std.proofs.Common.{length, refl, sym, ◌∙◌, ap, subst, arith}
use Rattle.key_join.specs.Least.{IsLeastFrom}
use Rattle.bag_list.specs.Joins.{HasRoom, IsJoin}
use Rattle.bag_list.specs.Levels.{from_of}
use Rattle.bag_list.specs.Tracks.{AllAdmitAt}
use Rattle.bag_list.proofs.JoinLemmas.{join-least, join-same}
use Rattle.bag_list.proofs.ThroughLemmas.{AreThrough, IsReached, kept-twice, same-itself, through-all, through-ended, through-more}
use Rattle.bag_list.proofs.operands.Operands.least_through.Goals as goal

pub loop-start-init : goal.loop-start-init
loop-start-init g c = record {
  through = record {
    same = same-itself c.args.sought.depth c.args.self.now.tracks.items;
    above = tt;
    reached = λ n k x s here lt le. absurd (omega (arith, lt));
  };
  joins = refl;
  ready = record {
    low = c.requires.low;
    within = c.requires.within;
    room = record {
      number = c.requires.room.number;
      joins = c.requires.room.joins;
      other = subst (λ ts. HasRoom (length ts) c.gather.new.self) c.deref.ensures.value c.gather.ensures.room;
      behind = c.requires.room.behind;
    };
    roomy = c.requires.roomy;
    counted = c.requires.counted;
    parts = c.requires.parts;
  };
  join = subst (λ ts. IsJoin g.O.Operand.depth_of g.O.Operand.tuples ts c.args.sought.depth c.args.other c.gather.new.self) c.deref.ensures.value c.gather.ensures.join;
}

pub returns-in_default-next_key-clause-least : goal.returns-in_default-next_key-clause-least
returns-in_default-next_key-clause-least g c =
    let s = c.loop-start.self in
    through-ended g.O.Operand.depth_of g.O.Operand.tuples g.met.O.Operand.deep c.args.self.now.tracks.items s.tracks.items c.args.sought.depth c.args.sought.label c.args.other c.args.sought.from.0 (from_of c.loop-start.start) c.loop-start.best
    c.requires.parts c.loop-start.invariant.through c.next_key.result
    (subst (λ b. IsLeastFrom (from_of b) (AllAdmitAt g.O.Operand.tuples s.tracks.items c.args.sought.depth c.args.other) c.next_key.result) (sym c.in-Some.is)
    (join-least g.O.Operand.depth_of g.O.Operand.tuples s.tracks.items c.args.sought.depth c.args.other s.other c.loop-start.invariant.join _ c.next_key.result c.next_key.ensures))
    c.in_default-next_key.not-Some

pub returns-then-is_reached-clause-kept : goal.returns-then-is_reached-clause-kept
returns-then-is_reached-clause-kept g c =
    kept-twice g.O.Operand.depth_of g.O.Operand.tuples c.args.sought.depth c.args.self.now c.loop-start.self c.least_at-found.new.self c.loop-start.invariant.through.same c.loop-start.invariant.joins c.least_at-found.ensures.kept

pub loop-start-preserved : goal.loop-start-preserved
loop-start-preserved g c =
    let depth_of = g.O.Operand.depth_of in
    let tuples = g.O.Operand.tuples in
    let old = c.args.self.now.tracks.items in
    let s = c.loop-start.self in
    let new = c.least_at-found.new.self in
    let depth = c.args.sought.depth in
    let least = join-least depth_of tuples s.tracks.items depth c.args.other s.other c.loop-start.invariant.join _ c.next_key.result c.next_key.ensures in
    record {
      through =
          subst (AreThrough tuples old new.tracks.items depth c.args.sought.label c.args.other c.args.sought.from.0 (from_of c.after.result)) (sym c.lesser-best.ensures)
          (through-more depth_of tuples g.met.O.Operand.deep old s.tracks.items depth c.args.sought.label c.args.other c.args.sought.from.0 (from_of c.loop-start.start) c.loop-start.best
          c.requires.parts c.loop-start.invariant.through c.in-Some-next_key.key.0 (from_of c.after.result) c.least_at-found.result new.tracks.items
          c.after.ensures.next
          (λ x le admit. subst (λ b. IsReached b x) c.in-Some-next_key.is (least.least x (let is = ap from_of c.in-Some.is in omega (arith, is, le)) admit))
          c.least_at-found.ensures.kept.same c.least_at-found.ensures.from c.least_at-found.ensures.least);
      joins = c.least_at-found.ensures.kept.joins ∙ c.loop-start.invariant.joins;
      ready = c.least_at-found.ensures.kept.ready;
      join =
          subst (IsJoin depth_of tuples new.tracks.items depth c.args.other) (sym c.least_at-found.ensures.other)
          (join-same depth_of tuples s.tracks.items new.tracks.items depth c.args.other s.other c.least_at-found.ensures.kept.same c.loop-start.invariant.join);
    }

pub returns-clause-least : goal.returns-clause-least
returns-clause-least g c =
    through-all g.O.Operand.tuples c.args.self.now.tracks.items c.loop-start.self.tracks.items c.args.sought.depth c.args.sought.label c.args.other c.args.sought.from.0 (from_of c.loop-start.start) c.loop-start.best c.loop-start.invariant.through
    (ap from_of c.in_default.is)
