use Rattle.std.proofs.Common.{ap, ◌∙◌}
use Rattle.hash_index.specs.Slots.{numbered}
use Rattle.hash_index.proofs.Slots.{numbered-empty}
use Rattle.term_dict.proofs.DictLemmas.{IsDictionary-empty}
use Rattle.term_dict.proofs.dict.Dict.seeded.Goals as goal

pub invariant_of-result : goal.invariant_of-result
invariant_of-result c = IsDictionary-empty c.of.result c.new.result.slots c.new-2.result c.new.ensures c.new-2.ensures

pub returns : goal.returns
returns c = ap numbered c.new.ensures ∙ numbered-empty
