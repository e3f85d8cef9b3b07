use Rattle.std.proofs.Common.{ap, arith, length}
use Rattle.edge_map.specs.Packing.{edges_of}
use Rattle.edge_map.proofs.PackLemmas.{zipped_length}
use Rattle.edge_map.proofs.packed.Packed.len.Goals as goal

pub returns : goal.returns
returns c =
    let size = zipped_length c.self.inside.keys.items (edges_of c.self.inside.keys.items c.self.inside.beside) c.self.invariant in
    let same = ap length c.self.view_is in
    let is = c.len.ensures in
    let number = c.self.inside.keys.ok.0 in
    omega (arith, size, same, is, number)
