use Rattle.std.proofs.Common.{◌≤◌, [], subst, sym}
use Rattle.graph_store.specs.StoreState.{most_triples}
use Rattle.line_batch.specs.Batches.{AreStaged}
use Rattle.line_batch.proofs.BatchLemmas.{none_staged}
use Rattle.line_batch.proofs.batch.Batch.inserts.Goals as goal

pub returns : goal.returns
returns g c =
    let none = subst (AreStaged c.args.store.now [] c.args.store.now) (sym c.new.ensures) (none_staged c.args.store.now c.requires c.stands.ensures.few) in
    record { ready = none.fits; none = (none, tt) }
