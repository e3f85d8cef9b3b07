use Rattle.std.proofs.Common.{◌≡◌, ◌++◌, take}
use Rattle.graph_shape.specs.GraphShapes.{tabbed}
use Rattle.graph_lines.proofs.row_lines.push_tabbed.Given as goal

abbrev pub invariant-loop-text : goal.invariant-loop-text
invariant-loop-text l = l.line ≡ l.fn.line ++ tabbed (take l.text-index l.texts)
