use Rattle.worked_lines.proofs.TriedLemmas.{entries_known}
use Rattle.worked_lines.proofs.small_graphs.lines_of.Goals as goal

pub counted-requires-clause-known : goal.counted-requires-clause-known
counted-requires-clause-known c =
    let ids = c.are_ids.ensures c.if-not-are_ids.false in
    entries_known c.in_ok-dict.dict ids.0 ids.1 ids.2 ids.3 c.args.triples.now c.requires.below
