use Rattle.query_text.proofs.NameParts.{two_behind, none_of_two}
use Rattle.query_text.proofs.name.behind_two.Goals as goal

pub returns-in-Some : goal.returns-in-Some
returns-in-Some c = two_behind _ _ _ _ c.in-Some.ensures.0 c.behind_one.ensures

pub returns-in-None : goal.returns-in-None
returns-in-None c = none_of_two _ c.utf8.text c.in-None.ensures
