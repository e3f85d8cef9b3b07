use Rattle.term_dict.proofs.DictLemmas.{of_place, small_if_there, one_to_one, IsNew-from}
use Rattle.term_dict.proofs.dict.Dict.find.Goals as goal

pub returns-clause-found : goal.returns-clause-found
returns-clause-found c = of_place c.self.inside.places.slots c.args.self.now _ c.find_under.result c.self.view_is c.find_under.ensures.found

pub returns-clause-small : goal.returns-clause-small
returns-clause-small c =
    small_if_there c.self.inside.secrets c.self.inside.places.slots c.self.inside.index c.args.self.now _ c.find_under.result c.self.view_is c.self.invariant c.find_under.ensures.found

pub returns-clause-none : goal.returns-clause-none
returns-clause-none c none =
    IsNew-from c.self.inside.secrets c.self.inside.places.slots c.self.inside.index c.args.self.now c.hash_of-hash.result _ c.self.view_is c.self.invariant c.hash_of-hash.ensures (c.find_under.ensures.none none)

pub returns-clause-one : goal.returns-clause-one
returns-clause-one c = one_to_one c.self.inside.secrets c.self.inside.places.slots c.self.inside.index c.args.self.now c.self.view_is c.self.invariant
