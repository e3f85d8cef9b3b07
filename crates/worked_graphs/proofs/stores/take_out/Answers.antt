use Rattle.std.proofs.Common.{sym, subst}
use Rattle.graph_store.specs.Staging.{AreMarked}
use Rattle.graph_store.specs.StagingLaws.{marked_nothing}
use Rattle.worked_graphs.proofs.stores.take_out.Goals as goal

pub delete-requires-clause-there : goal.delete-requires-clause-there
delete-requires-clause-there g c =
    let s = c.args.store.now in
    c.mark_line-2.ensures (c.mark_line.ensures (subst (AreMarked s) (sym c.new-taken.ensures) (marked_nothing s)))
