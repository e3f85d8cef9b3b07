use Rattle.std.proofs.Common.{◌∙◌, ap}
use Rattle.std.specs.Prelude.{Some}
use Rattle.script_model.specs.Commands as script
use Rattle.line_batch.specs.Batches.{lent_saying}
use Rattle.line_batch.proofs.BatchLemmas.{bad_line, note_full, note_staged}
use Rattle.line_batch.proofs.batch.stage.Goals as goal

pub returns-in_default-clause-line : goal.returns-in_default-clause-line
returns-in_default-clause-line g c = λ s body n h. bad_line s script.Inserts body (lent_saying c.args.saying) h.good c.args.number n (ap lent_saying c.in_default.is)

pub returns-then-is_over-clause-line : goal.returns-then-is_over-clause-line
returns-then-is_over-clause-line g c = λ s body n h.
    note_full s body c.args.store.now c.args.staged.now h (lent_saying c.args.saying) c.args.number n (ap lent_saying (c.in-Some.is ∙ ap Some c.in-None.is)) c.if-is_over.ensures

pub returns-else-is_over-clause-line : goal.returns-else-is_over-clause-line
returns-else-is_over-clause-line g c = λ s body n h.
    note_staged s body c.args.store.now c.args.staged.now h (lent_saying c.args.saying) (ap lent_saying (c.in-Some.is ∙ ap Some c.in-None.is)) c.if-is_over.ensures
