use Rattle.tn_io.proofs.PutLemmas.{puts_same}
use Rattle.answer_text.proofs.RowLemmas.{first_name, later_name}
use Rattle.answer_text.proofs.row.put_name.Goals as goal

pub returns-then-first-clause-put : goal.returns-then-first-clause-put
returns-then-first-clause-put g c = puts_same _ _ (first_name c.args.first c.args.name.now c.if-first.true) c.put_pieces.ensures.put

pub returns-else-first-clause-put : goal.returns-else-first-clause-put
returns-else-first-clause-put g c = puts_same _ _ (later_name c.args.first c.args.name.now c.if-first.false) c.put_pieces-else-first.ensures.put
