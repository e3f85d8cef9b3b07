use Rattle.std.proofs.Common.{◌≡◌, subst, sym, ap}
use Rattle.graph_store.specs.StoreState.{StoreState}
use Rattle.line_batch.specs.Batches.{lent_line}
use Rattle.line_batch.specs.Sound.{IsBetweenCommands}
use Rattle.line_batch.specs.Carrying.{Around}
use Rattle.tentris_core.specs.Carrying.{around}
use Rattle.tentris_core.specs.Places.{Position, Outside, Inside, IsAt, MeetsLine, effects, TakesLine}
use Rattle.script_model.specs.Commands.{Triples, Question}
use Rattle.tentris_core.specs.declared.block.Progress.TheVariants as place
use Rattle.tentris_core.proofs.BlockLemmas.{takes_told}
use Rattle.tentris_core.proofs.block.take_line.Goals as goal

pub returns-in-Outside-clause-takes : goal.returns-in-Outside-clause-takes
returns-in-Outside-clause-takes g c = λ A p s is sound at.
    takes_told A p _ s _ _ _ _ _ _ _ _ (by A p s is sound (subst (IsAt p s c.args.store.now) c.in-Outside.is at)) c.tell.ensures.text where
      by : (A : Around) (p : Position) (s : StoreState) → A ≡ around g.M.Mix.mixed c.args.tools.now.sorted c.args.tools.now.reader.max (g.F.Files.files c.args.files.now) → IsBetweenCommands A.mixed s → IsAt p s c.args.store.now place.Outside
          → MeetsLine A p (lent_line c.args.line) s c.outside-next.new.store c.outside-next.result.0 (g.F.Files.faults c.args.files.now) (g.F.Files.faults c.outside-next.new.files) c.outside-next.result.1
      by A Outside s is sound at =
          subst (λ z. MeetsLine A Outside (lent_line c.args.line) z c.outside-next.new.store c.outside-next.result.0 (g.F.Files.faults c.args.files.now) (g.F.Files.faults c.outside-next.new.files) c.outside-next.result.1) at
          (c.outside-next.ensures.meets A is)
      by A (Inside kind body) s is sound at = absurd at

pub returns-in-Inside-clause-takes : goal.returns-in-Inside-clause-takes
returns-in-Inside-clause-takes g c = λ A p s is sound at.
    takes_told A p _ s _ _ _ _ _ _ _ _ (by A p s is sound (subst (IsAt p s c.args.store.now) c.in-Inside.is at)) c.tell-in-Inside.ensures.text where
      by : (A : Around) (p : Position) (s : StoreState) → A ≡ around g.M.Mix.mixed c.args.tools.now.sorted c.args.tools.now.reader.max (g.F.Files.files c.args.files.now) → IsBetweenCommands A.mixed s → IsAt p s c.args.store.now (place.Inside c.in-Inside.block)
          → MeetsLine A p (lent_line c.args.line) s c.inside-next.new.store c.inside-next.result.0 (g.F.Files.faults c.args.files.now) (g.F.Files.faults c.args.files.now) c.inside-next.result.1
      by A Outside s is sound at = absurd at
      by A (Inside Question body) s is sound at = absurd at
      by A (Inside (Triples change) body) s is sound at = c.inside-next.ensures A s change body (g.F.Files.faults c.args.files.now) (ap (λ z. z.mixed) is) sound at

pub returns-in-Asks-clause-takes : goal.returns-in-Asks-clause-takes
returns-in-Asks-clause-takes g c = λ A p s is sound at. by A p s is sound (subst (IsAt p s c.args.store.now) c.in-Asks.is at) where
  by : (A : Around) (p : Position) (s : StoreState) → A ≡ around g.M.Mix.mixed c.args.tools.now.sorted c.args.tools.now.reader.max (g.F.Files.files c.args.files.now) → IsBetweenCommands A.mixed s → IsAt p s c.args.store.now (place.Asks c.in-Asks.question)
      → TakesLine A p (lent_line c.args.line) s c.args.store.now c.asks.result.0
      (effects (g.K.Sink.written c.args.out.now.sink.now) (g.F.Files.faults c.args.files.now)) (effects (g.K.Sink.written c.asks.new.out.sink.now) (g.F.Files.faults c.args.files.now)) c.asks.result.1
  by A Outside s is sound at = absurd at
  by A (Inside (Triples change) body) s is sound at = absurd at
  by A (Inside Question body) s is sound at =
      subst (λ z. TakesLine A (Inside Question body) (lent_line c.args.line) z c.args.store.now c.asks.result.0
      (effects (g.K.Sink.written c.args.out.now.sink.now) (g.F.Files.faults c.args.files.now)) (effects (g.K.Sink.written c.asks.new.out.sink.now) (g.F.Files.faults c.args.files.now)) c.asks.result.1) at.0
      (c.asks.ensures.takes A body (g.F.Files.faults c.args.files.now) (ap (λ z. z.sorted) is) (subst (IsBetweenCommands A.mixed) (sym at.0) sound) at.1)
