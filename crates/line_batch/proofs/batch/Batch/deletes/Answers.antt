use Rattle.std.proofs.Common.{[], refl, subst, sym}
use Rattle.line_batch.specs.Batches.{AreToGo}
use Rattle.line_batch.proofs.BatchLemmas.{none_marked}
use Rattle.line_batch.proofs.batch.Batch.deletes.Goals as goal

pub returns : goal.returns
returns g c =
    let none = subst (AreToGo c.args.store.now []) (sym c.new.ensures) (none_marked c.args.store.now) in
    record { ready = (c.requires, none.there); none = ((refl, none), tt) }
