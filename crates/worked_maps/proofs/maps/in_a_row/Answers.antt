use Rattle.std.proofs.Common.{◌+◌, sym, subst, arith}
use Rattle.edge_map.specs.Entries.{KeysRise}
use Rattle.edge_map.proofs.ChunkLemmas.{Below, rise_push, below_push}
use Rattle.worked_maps.proofs.maps.in_a_row.Goals as goal

pub loop-key-preserved : goal.loop-key-preserved
loop-key-preserved c =
    let old = c.loop-key.changes.items in (
      subst KeysRise (sym c.in_ok-push.ensures.items) (rise_push 0 old _ (omega arith) c.loop-key.invariant.0 c.loop-key.invariant.1),
      subst (Below (c.loop-key.key + 1)) (sym c.in_ok-push.ensures.items) (below_push c.loop-key.key old _ c.loop-key.invariant.1 (omega arith)),
    )
