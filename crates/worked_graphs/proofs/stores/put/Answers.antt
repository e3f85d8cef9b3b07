use Rattle.std.proofs.Common.{sym, subst, arith}
use Rattle.graph_store.specs.Staging.{Fits}
use Rattle.graph_store.specs.StagingLaws.{fits_nothing}
use Rattle.worked_graphs.proofs.stores.put.Goals as goal

pub stage_line-requires-clause-fits : goal.stage_line-requires-clause-fits
stage_line-requires-clause-fits g c = subst (Fits c.args.store.now) (sym c.new-staged.ensures) (fits_nothing c.args.store.now c.requires.settled c.stands.ensures.few)
