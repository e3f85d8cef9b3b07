use Rattle.query_text.proofs.NameParts.{one_behind, none_behind}
use Rattle.query_text.proofs.name.behind_one.Goals as goal

pub returns-in-Some : goal.returns-in-Some
returns-in-Some c = one_behind _ _ _ c.in-Some.ensures.2 c.in-Some.ensures.0

pub returns-in-None : goal.returns-in-None
returns-in-None c = none_behind _ c.utf8.text c.in-None.ensures
