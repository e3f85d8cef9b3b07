use Rattle.std.proofs.Common.{sym, ap}
use Rattle.tn_io.proofs.PutLemmas.{puts_same, puts_nothing}
use Rattle.answer_text.specs.Fields.{parting}
use Rattle.answer_text.proofs.row.put_parting.Goals as goal

pub returns-then-first-clause-put : goal.returns-then-first-clause-put
returns-then-first-clause-put g c = puts_same _ _ (ap parting (sym c.if-first.true)) (puts_nothing _ _ _)

pub returns-clause-put : goal.returns-clause-put
returns-clause-put g c = puts_same _ _ (ap parting (sym c.if-first.false)) c.put_byte.ensures.puts
