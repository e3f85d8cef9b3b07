use Rattle.std.proofs.Common.{◌≡◌, take}
use Rattle.std.specs.Prelude.{Some, map}
use Rattle.solution_model.specs.Rows.{Row}
use Rattle.solution_model.specs.Texts.{tabbed, field_text}
use Rattle.sorted_rows.proofs.texts.text_of.Given as goal

abbrev pub invariant-loop-col : goal.invariant-loop-col
invariant-loop-col l = (row : Row) → l.listing.present ≡ Some row → l.text ≡ tabbed (take l.col (map field_text row))
