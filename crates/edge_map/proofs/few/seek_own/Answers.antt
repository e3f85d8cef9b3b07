use Rattle.std.proofs.Common.{◌∙◌, ap, Some}
use Rattle.edge_map.specs.Few.{own_entry}
use Rattle.edge_map.proofs.PackLemmas.{map_at}
use Rattle.edge_map.proofs.SeekLemmas.{seek_here}
use Rattle.edge_map.proofs.few.seek_own.Goals as goal

pub returns-then-keys-at : goal.returns-then-keys-at
returns-then-keys-at c =
    ap Some (c.own_at.ensures c.own_at.result ∙ map_at own_entry c.args.keys.now c.loop-at.at 0 c.own_at.result c.loop-at-test.true)
    ∙ seek_here own_entry c.args.keys.now c.args.from.0 c.loop-at.at 0 c.loop-at-test.true c.if-keys-at.true c.loop-at.invariant
