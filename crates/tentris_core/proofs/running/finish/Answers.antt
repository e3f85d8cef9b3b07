use Rattle.std.proofs.Common.{subst, sym}
use Rattle.graph_store.specs.StoreState.{IsSettled}
use Rattle.tentris_core.proofs.RunLemmas.{ready}
use Rattle.tentris_core.proofs.running.finish.Goals as goal

pub abandon-requires : goal.abandon-requires
abandon-requires g c = record { ready = ready c.requires.been.position c.requires.been.last c.args.store.now c.args.place c.requires.been.sound c.requires.been.is_at }

pub seen-requires : goal.seen-requires
seen-requires g c = record { settled = subst IsSettled (sym (c.abandon.ensures c.requires.been.position c.requires.been.last c.requires.been.is_at)) c.requires.been.sound.settled }
