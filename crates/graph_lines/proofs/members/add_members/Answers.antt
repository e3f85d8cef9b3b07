use Rattle.std.proofs.Common.{◌≡◌, arith, subst}
use Rattle.tuple_image.specs.TupleImages.{IsOver}
use Rattle.trie_context.specs.Rows.{set_of}
use Rattle.graph_view.specs.Read.{has_id}
use Rattle.graph_lines.proofs.members.add_members.Goals as goal

pub add_row_pairs-requires-clause-known : goal.add_row_pairs-requires-clause-known
add_row_pairs-requires-clause-known c =
    let two : c.args.depth ≡ 2 = let low = c.requires.low in let high = c.requires.high in let other = c.if-depth-eq1.false in omega arith in
    subst (λ d. IsOver (has_id c.args.all.dict.now) (set_of c.args.all.tables.now d c.args.row)) two c.requires.known
