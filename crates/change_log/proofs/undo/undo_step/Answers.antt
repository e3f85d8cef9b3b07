use Rattle.std.proofs.Common.{subst}
use Rattle.change_log.specs.Log.{StepDid}
use Rattle.change_log.proofs.undo.undo_step.Goals as goal

pub undo_row-requires : goal.undo_row-requires
undo_row-requires g c =
    let r = c.requires.done in
    record { done = (r.0, r.1, subst (λ s. StepDid g.M.Mix.mixed r.0 s c.args.context.now) c.in-Keys.is r.2) }

pub undo_row-requires-in-Pairs : goal.undo_row-requires-in-Pairs
undo_row-requires-in-Pairs g c =
    let r = c.requires.done in
    record { done = (r.0, r.1, subst (λ s. StepDid g.M.Mix.mixed r.0 s c.args.context.now) c.in-Pairs.is r.2) }

pub undo_row-requires-in-Triples : goal.undo_row-requires-in-Triples
undo_row-requires-in-Triples g c =
    let r = c.requires.done in
    record { done = (r.0, r.1, subst (λ s. StepDid g.M.Mix.mixed r.0 s c.args.context.now) c.in-Triples.is r.2) }
