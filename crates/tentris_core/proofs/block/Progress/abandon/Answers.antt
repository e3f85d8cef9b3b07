use Rattle.std.proofs.Common.{subst}
use Rattle.tentris_core.specs.Places.{IsAt}
use Rattle.tentris_core.proofs.BlockLemmas.{inside_at, asks_at}
use Rattle.tentris_core.proofs.block.Progress.abandon.Goals as goal

pub returns-in-Inside : goal.returns-in-Inside
returns-in-Inside g c = λ p s at.
    let h = inside_at p s c.args.store.now c.in-Inside.block (subst (IsAt p s c.args.store.now) c.in-Inside.is at) in
    c.abandon.ensures s h.change _ h.is.batch

pub returns-in-Asks : goal.returns-in-Asks
returns-in-Asks g c = λ p s at. asks_at p s c.args.store.now _ (subst (IsAt p s c.args.store.now) c.in-Asks.is at)
