use Rattle.change_log.proofs.UndoLemmas.{closed_again}
use Rattle.change_log.proofs.undo.put_back.Goals as goal

pub returns : goal.returns
returns g c t kept opened =
    closed_again g.M.Mix.mixed g.L.Level.DEPTH g.met.L.Level.depth_low g.met.L.Level.depth_high t c.args.context.now c.close-held.new.self kept c.args.place c.args.node opened c.close-held.ensures.closed
