use Rattle.term_dict.proofs.PlaceLemmas.{next_is_vacant, next_is_least}
use Rattle.term_dict.proofs.places.Places.next.Goals as goal

pub returns-clause-vacant : goal.returns-clause-vacant
returns-clause-vacant c = rw (← c.self.view_is) (next_is_vacant _ _ _ c.self.invariant)

pub returns-clause-least : goal.returns-clause-least
returns-clause-least c = rw (← c.self.view_is) (next_is_least _ _ _ c.self.invariant)
