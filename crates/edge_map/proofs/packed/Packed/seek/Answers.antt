use Rattle.std.proofs.Common.{arith}
use Rattle.edge_map.proofs.ChunkLemmas.{seek_some, seek_none}
use Rattle.edge_map.proofs.packed.Packed.seek.Goals as goal

pub returns-then-at-len : goal.returns-then-at-len
returns-then-at-len c =
    let size = c.len.ensures in
    let below = c.if-at-len.true in
    seek_some c.args.from.0 c.place-at.result c.args.self.now c.at.result c.place-at.ensures (omega (arith, size, below)) c.at.ensures

pub returns-else-at-len : goal.returns-else-at-len
returns-else-at-len c =
    let size = c.len.ensures in
    let past = c.if-at-len.false in
    seek_none c.args.from.0 c.place-at.result c.args.self.now c.place-at.ensures (omega (arith, size, past))
