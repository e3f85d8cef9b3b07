use Rattle.std.proofs.Common.{◌∙◌}
use Rattle.term_dict.proofs.DictLemmas.{len_of, one_to_one, small_ids}
use Rattle.term_dict.proofs.dict.Dict.len.Goals as goal

pub returns-clause-value : goal.returns-clause-value
returns-clause-value c = c.held.ensures ∙ len_of c.self.inside.places.slots c.args.self.now c.self.view_is

pub returns-clause-one : goal.returns-clause-one
returns-clause-one c = one_to_one c.self.inside.secrets c.self.inside.places.slots c.self.inside.index c.args.self.now c.self.view_is c.self.invariant

pub returns-clause-small : goal.returns-clause-small
returns-clause-small c = small_ids c.self.inside.secrets c.self.inside.places.slots c.self.inside.index c.args.self.now c.self.view_is c.self.invariant
