use Rattle.std.proofs.Common.{sym, subst}
use Rattle.std.specs.Prelude.{None, Some}
use Rattle.run_model.specs.Sayings.{sayings}
use Rattle.line_batch.specs.Batches.{ChangesStore}
use Rattle.line_batch.specs.Loading.{Gathers, IsCounted, failed_read}
use Rattle.line_batch.specs.Seen.{answer_of}
use Rattle.line_batch.specs.Sound.{IsBetweenCommands}
use Rattle.line_batch.proofs.LoadLemmas.{load_whole, load_refused, load_failed}
use Rattle.line_batch.proofs.file_lines.load.Goals as goal

pub returns-in-Whole-clause-carries : goal.returns-in-Whole-clause-carries
returns-in-Whole-clause-carries g c = λ A change has sound none.
    let h = subst (λ r. Gathers A c.args.store.now change c.args.scope.now c.args.name.now c.gather.new.store c.gather.new.reader.place r) c.in-Whole.is (c.gather.ensures.gathers A change has none) in
    record {
      failed = None;
      carries =
          load_whole A _ change _ _ _ _ _ _ h
          (subst (λ m. ChangesStore m c.args.store.now change (sayings c.args.scope.now h.told) c.carry_out.new.store (answer_of c.carry_out.result)) (sym has.mixed)
          (c.carry_out.ensures _ change (sayings c.args.scope.now h.told) sound h.is));
      counted = subst (λ r. IsCounted (g.F.Files.faults c.args.files.now) (g.F.Files.faults c.gather.new.files) (failed_read c.args.name.now c.gather.new.reader.place r)) c.in-Whole.is c.gather.ensures.counted;
    }

pub returns-in-Refused-clause-carries : goal.returns-in-Refused-clause-carries
returns-in-Refused-clause-carries g c = λ A change has sound none.
    let h = subst (λ r. Gathers A c.args.store.now change c.args.scope.now c.args.name.now c.gather.new.store c.gather.new.reader.place r) c.in-Refused.is (c.gather.ensures.gathers A change has none) in
    record {
      failed = None;
      carries = load_refused A _ change _ _ (subst (λ m. IsBetweenCommands m c.args.store.now) (sym has.mixed) sound) _ h.0 _ h.1;
      counted = subst (λ r. IsCounted (g.F.Files.faults c.args.files.now) (g.F.Files.faults c.gather.new.files) (failed_read c.args.name.now c.gather.new.reader.place r)) c.in-Refused.is c.gather.ensures.counted;
    }

pub returns-in-Failed-clause-carries : goal.returns-in-Failed-clause-carries
returns-in-Failed-clause-carries g c = λ A change has sound none.
    let h = subst (λ r. Gathers A c.args.store.now change c.args.scope.now c.args.name.now c.gather.new.store c.gather.new.reader.place r) c.in-Failed.is (c.gather.ensures.gathers A change has none) in
    record {
      failed = Some (record { name = c.args.name.now; place = c.gather.new.reader.place });
      carries = load_failed A _ change _ _ (subst (λ m. IsBetweenCommands m c.args.store.now) (sym has.mixed) sound) _ h.0 _ h.1;
      counted = subst (λ r. IsCounted (g.F.Files.faults c.args.files.now) (g.F.Files.faults c.gather.new.files) (failed_read c.args.name.now c.gather.new.reader.place r)) c.in-Failed.is c.gather.ensures.counted;
    }
