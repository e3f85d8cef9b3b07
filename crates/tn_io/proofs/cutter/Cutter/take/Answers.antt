use Rattle.std.proofs.Common.{rules, arith, ◌-◌, [], length, drop, ap, sym, ◌∙◌, length-drop}
use Rattle.std.proofs.lemmas.List.{take_all}
use Rattle.tn_io.specs.CutterState.{whole_to_come}
use Rattle.tn_io.proofs.LineLemmas.{no_whole_left, none_taken, more_taken, further, not_some}
use Rattle.tn_io.proofs.cutter.Cutter.take.Goals as goal

pub loop-taken-init : goal.loop-taken-init
loop-taken-init c =
    none_taken c.args.self.now c.args.piece.now
    (ap (λ s. whole_to_come s []) (sym c.self.view_is)
    ∙ no_whole_left (record { line = c.self.inside.line.items; cr = c.self.inside.after_cr; told = c.self.inside.told; ended = c.self.inside.ended }) (search rules))

pub returns-then-is_some-clause-takes : goal.returns-then-is_some-clause-takes
returns-then-is_some-clause-takes c =
    more_taken c.args.self.now c.loop-taken.self c.part-count.new.self c.args.piece.now _ c.loop-taken.taken c.part-count.result.0 c.part-count.result.1 c.loop-taken.invariant
    (take_all (length c.args.piece.now - c.loop-taken.taken) (drop c.loop-taken.taken c.args.piece.now) (omega (arith, length-drop c.loop-taken.taken c.args.piece.now)))
    c.part-count.ensures.within.1 c.part-count.ensures.takes

pub loop-taken-preserved : goal.loop-taken-preserved
loop-taken-preserved c =
    further c.args.self.now c.loop-taken.self c.part-count.new.self c.args.piece.now _ c.loop-taken.taken c.part-count.result.0 c.part-count.result.1 c.loop-taken.invariant
    (take_all (length c.args.piece.now - c.loop-taken.taken) (drop c.loop-taken.taken c.args.piece.now) (omega (arith, length-drop c.loop-taken.taken c.args.piece.now)))
    c.part-count.ensures.within.1
    (not_some c.part-count.result.1 c.is_some.result c.is_some.ensures c.if-is_some.false) c.part-count.ensures.takes
