use Rattle.text_lines.proofs.LineLaws.{cuts_are_productions, whole_lines_stay}
use Rattle.text_lines.proofs.laws_of_lines.Goals as goal

pub returns-clause-productions : goal.returns-clause-productions
returns-clause-productions c = cuts_are_productions

pub returns-clause-whole_lines_stay : goal.returns-clause-whole_lines_stay
returns-clause-whole_lines_stay c = whole_lines_stay
