use Rattle.std.proofs.Common.{subst}
use Rattle.std.specs.Result.{OnErr}
use Rattle.std.proofs.Common.{Result, Ok, Err}
use Rattle.trie_context.specs.Holds.{RowsStay}
use Rattle.trie_context.proofs.context.Context.intern.Goals as goal

on_err : {A B : Type 0} (r : Result A B) (P : Type 0) → P → OnErr r P
on_err (Ok x) P p = tt
on_err (Err e) P p = p

pub returns-in_err-row-clause-came : goal.returns-in_err-row-clause-came
returns-in_err-row-clause-came g c = on_err c.from_residual.result (RowsStay c.intern_row.new.tables c.args.self.now) (subst (RowsStay c.intern_row.new.tables) c.self.view_is c.in_err-row.ensures.came)
