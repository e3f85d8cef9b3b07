use Rattle.std.proofs.Common.{◌∙◌}
use Rattle.term_dict.proofs.DictLemmas.{at_slot, not_there}
use Rattle.term_dict.proofs.dict.Dict.term.Goals as goal

pub unreachable-requires : goal.unreachable-requires
unreachable-requires c = not_there _ c.requires (at_slot c.self.inside.places.slots c.args.self.now c.self.view_is c.args.id.0 ∙ c.in-None.ensures)

pub returns : goal.returns
returns c = at_slot c.self.inside.places.slots c.args.self.now c.self.view_is c.args.id.0 ∙ c.in-Some.ensures
