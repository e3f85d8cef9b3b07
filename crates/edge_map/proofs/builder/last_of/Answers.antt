use Rattle.std.proofs.Common.{◌-◌, ◌∙◌, sym, ap, length, arith}
use Rattle.edge_map.proofs.PlaceLemmas.{ltb_is}
use Rattle.edge_map.proofs.JoinLemmas.{last_at}
use Rattle.edge_map.proofs.builder.last_of.Goals as goal

pub returns-in-Some-clause-size : goal.returns-in-Some-clause-size
returns-in-Some-clause-size c =
    let cs = c.args.chunks.now in
    let some = ltb_is 0 (length cs) (sym c.in-Some.ensures.item.0) in
    c.len.ensures.len ∙ ap length c.in-Some.ensures.item.1 ∙ sym (last_at 256 cs c.in-Some.chunk.now (length cs - 1) (omega (arith, some)))
