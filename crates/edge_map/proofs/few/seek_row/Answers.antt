use Rattle.std.proofs.Common.{◌∙◌, ap, Some}
use Rattle.edge_map.specs.Few.{row_entry}
use Rattle.edge_map.proofs.PackLemmas.{map_at}
use Rattle.edge_map.proofs.SeekLemmas.{seek_here}
use Rattle.edge_map.proofs.few.seek_row.Goals as goal

pub returns-then-pairs-at : goal.returns-then-pairs-at
returns-then-pairs-at c =
    ap Some (c.row_at.ensures c.row_at.result ∙ map_at row_entry c.args.pairs.now c.loop-at.at (0, 0) c.row_at.result c.loop-at-test.true)
    ∙ seek_here row_entry c.args.pairs.now c.args.from.0 c.loop-at.at (0, 0) c.loop-at-test.true c.if-pairs-at.true c.loop-at.invariant
