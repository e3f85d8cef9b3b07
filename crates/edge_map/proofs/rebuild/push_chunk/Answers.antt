use Rattle.std.proofs.Common.{◌≡◌, ◌∙◌, ap, arith, length}
use Rattle.edge_map.specs.Entries.{merged}
use Rattle.edge_map.proofs.SplitLemmas.{merged_length}
use Rattle.edge_map.proofs.rebuild.push_chunk.Goals as goal

pub returns-clause-copies : goal.returns-clause-copies
returns-clause-copies g c =
    let run : length c.deref.result.now ≡ length (merged c.args.chunk.now c.args.changes.now) = ap length (c.deref.ensures.value ∙ c.in_ok-run.ensures.entries) in
    omega (arith, run, c.merged_chunk.ensures.few, merged_length c.args.changes.now c.args.chunk.now, c.push_all.ensures.copies)
