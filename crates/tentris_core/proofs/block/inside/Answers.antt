use Rattle.std.proofs.Common.{arith, ◌∷◌, [], ◌++◌, refl, sym, subst, length-append}
use Rattle.std.specs.Prelude.{None}
use Rattle.run_model.specs.Sayings.{sayings}
use Rattle.script_model.specs.Commands as script
use Rattle.line_batch.specs.Seen.{answer_of}
use Rattle.line_batch.specs.Sound.{IsBetweenCommands}
use Rattle.line_batch.specs.Batches.{lent_line, ChangesStore}
use Rattle.tentris_core.specs.Places.{Outside, Inside}
use Rattle.tentris_core.proofs.BlockLemmas.{ends_it, goes_on, block_step}
use Rattle.tentris_core.proofs.TrafficLemmas.{counted_none}
use Rattle.tentris_core.proofs.block.inside.Goals as goal

pub returns-then-ends : goal.returns-then-ends
returns-then-ends g c = λ A s change body faults mixed sound h. record {
  next = Outside;
  after = c.carry_out-answer.new.store;
  is_at = refl;
  leads = (
    record {
      command = script.Block (script.Triples change) body;
      closed = refl;
      out = refl;
      are = ends_it (lent_line c.args.line) (script.Triples change) body c.if-ends.ensures;
      answer = answer_of c.carry_out-answer.result;
      failed = None;
      carries =
          block_step A s change body c.carry_out-answer.new.store (answer_of c.carry_out-answer.result)
          (subst (λ m. ChangesStore m s change (sayings [] body) c.carry_out-answer.new.store (answer_of c.carry_out-answer.result)) (sym mixed) (c.carry_out-answer.ensures s change (sayings [] body) (subst (λ m. IsBetweenCommands m s) mixed sound) h.batch));
    },
    refl,
    counted_none faults,
  );
  had = omega arith;
}

pub returns : goal.returns
returns g c = λ A s change body faults mixed sound h. record {
  next = Inside (script.Triples change) (body ++ lent_line c.args.line ∷ []);
  after = s;
  is_at = c.with_line.ensures s change body h;
  leads = (refl, goes_on (lent_line c.args.line) (script.Triples change) body c.if-ends.ensures, refl);
  had = omega (arith, length-append body (lent_line c.args.line ∷ []));
}
