use Rattle.std.proofs.Common.{arith, ◌∙◌, ℕ, List, ap}
use Rattle.script_read.specs.ScriptState.{ScriptState}
use Rattle.script_read.proofs.ScriptLemmas.{takes_none, none_ahead, refill_over, refill_more}
use Rattle.script_read.proofs.script.Script.refill.Goals as goal

pub returns-in_default-clause-takes : goal.returns-in_default-clause-takes
returns-in_default-clause-takes g c =
    let i = c.self.inside in
    takes_none _ _ _ _ c.in_default.ensures.bytes
    (ap (λ (a : List ℕ). let s : ScriptState = record { cutter = i.cutter; ahead = a; left = i.left; over = i.over; ended = i.ended } in s) (none_ahead i.at i.end i.buffer _ (omega arith) (ap (λ s. s.ahead) c.self.view_is ∙ c.requires.empty)) ∙ c.self.view_is)

pub returns-then-count-self-clause-takes : goal.returns-then-count-self-clause-takes
returns-then-count-self-clause-takes g c = refill_over _ _ _ _ c.self.view_is c.in-Ok.count c.read.new.buf _ c.in-Ok.ensures.bytes.0 c.requires.empty c.requires.under c.in-Ok.ensures.bound.0 c.if-count-self.true

pub returns-else-count-self-clause-takes : goal.returns-else-count-self-clause-takes
returns-else-count-self-clause-takes g c = refill_more _ _ _ _ c.self.view_is c.in-Ok.count c.read.new.buf _ c.in-Ok.ensures.bytes.0 c.requires.empty c.requires.under c.in-Ok.ensures.bound.0 c.if-count-self.false
