use Rattle.std.proofs.Common.{◌∙◌, ap}
use Rattle.std.specs.Prelude.{Some}
use Rattle.script_model.specs.Commands as script
use Rattle.line_batch.specs.Batches.{lent_saying}
use Rattle.line_batch.proofs.BatchLemmas.{bad_line, note_marked}
use Rattle.line_batch.proofs.batch.mark.Goals as goal

pub returns-in_default-clause-line : goal.returns-in_default-clause-line
returns-in_default-clause-line g c = λ body n h. bad_line c.args.store.now script.Deletes body (lent_saying c.args.saying) h.good c.args.number n (ap lent_saying c.in_default.is)

pub returns-in-None-clause-line : goal.returns-in-None-clause-line
returns-in-None-clause-line g c = λ body n h.
    note_marked c.args.store.now body c.args.taken.now h (lent_saying c.args.saying) (ap lent_saying (c.in-Some.is ∙ ap Some c.in-None.is))
