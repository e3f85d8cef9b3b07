use Rattle.std.proofs.Common.{sym, ap, subst, refl, ◌∙◌, ◌≡◌, []}
use Rattle.change_log.specs.Log.{Leads}
use Rattle.worked_tries.proofs.logs.ready_log.Goals as goal

pub undo-requires : goal.undo-requires
undo-requires g c =
    let none = c.in-Err.ensures.same ∙ c.new-log.ensures in
    record { led = (c.args.context.now, subst (λ steps. Leads g.M.Mix.mixed c.args.context.now steps c.args.context.now) (sym none) refl) }

pub returns-in-Err-clause-same : goal.returns-in-Err-clause-same
returns-in-Err-clause-same g c =
    let none = c.in-Err.ensures.same ∙ c.new-log.ensures in
    c.undo.ensures c.args.context.now (subst (λ steps. Leads g.M.Mix.mixed c.args.context.now steps c.args.context.now) (sym none) refl)
