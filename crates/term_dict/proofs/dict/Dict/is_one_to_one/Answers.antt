use Rattle.term_dict.proofs.DictLemmas.{one_to_one}
use Rattle.term_dict.proofs.dict.Dict.is_one_to_one.Goals as goal

pub returns : goal.returns
returns c = one_to_one c.self.inside.secrets c.self.inside.places.slots c.self.inside.index c.args.self.now c.self.view_is c.self.invariant
