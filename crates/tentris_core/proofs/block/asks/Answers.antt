use Rattle.std.proofs.Common.{arith, ◌∷◌, [], ◌++◌, refl, length-append}
use Rattle.script_model.specs.Commands.{Question}
use Rattle.line_batch.specs.Batches.{lent_line}
use Rattle.tentris_core.specs.Places.{Outside, Inside}
use Rattle.tentris_core.proofs.BlockLemmas.{goes_on, question_leads}
use Rattle.tentris_core.proofs.block.asks.Goals as goal

pub returns-then-ends-clause-takes : goal.returns-then-ends-clause-takes
returns-then-ends-clause-takes g c = λ A body faults sorted sound h. record {
  next = Outside;
  after = c.args.store.now;
  is_at = refl;
  leads = question_leads A (lent_line c.args.line) body c.args.store.now _ _ faults _ c.if-ends.ensures (c.answer-outcome.ensures.answers A body sorted sound h);
  had = omega arith;
}

pub returns-clause-takes : goal.returns-clause-takes
returns-clause-takes g c = λ A body faults sorted sound h. record {
  next = Inside Question (body ++ lent_line c.args.line ∷ []);
  after = c.args.store.now;
  is_at = (refl, c.with_line.ensures body h);
  leads = (refl, goes_on (lent_line c.args.line) Question body c.if-ends.ensures, refl);
  had = omega (arith, length-append body (lent_line c.args.line ∷ []));
}
