use Rattle.std.proofs.Common.{refl, sym, subst}
use Rattle.script_read.specs.ScriptState.{IsOpen}
use Rattle.script_read.proofs.ScriptLemmas.{cut_more, ahead_cut}
use Rattle.script_read.proofs.script.Script.cut.Goals as goal

pub returns-clause-still : goal.returns-clause-still
returns-clause-still c = λ max taken ls h.
    let e = c.take-count.ensures in
    cut_more _ _ c.take-count.result.0 c.take-count.result.1 e.within (ahead_cut c.self.inside.at c.self.inside.end c.take-count.result.0 c.self.inside.buffer) refl refl refl e.cut e.takes.lines e.takes.whole max taken ls
    (subst (λ s. IsOpen max s taken ls) (sym c.self.view_is) h)
