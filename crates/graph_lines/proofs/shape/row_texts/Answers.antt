use Rattle.graph_lines.proofs.shape.row_texts.Goals as goal

pub add_row_lines-requires-clause-known : goal.add_row_lines-requires-clause-known
add_row_lines-requires-clause-known c = c.requires.known 1

pub add_row_lines-requires-2-clause-known : goal.add_row_lines-requires-2-clause-known
add_row_lines-requires-2-clause-known c = c.requires.known 2
