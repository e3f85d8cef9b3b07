use Rattle.std.proofs.Common.{◌≡◌, IsTrue, false, subst}
use Rattle.bag_list.specs.Tracks.{AllHaveDoubled, SomeLacksKey}
use Rattle.bag_list.proofs.operands.Operands.lacks_key.Goals as goal

pub returns-clause-lacks : goal.returns-clause-lacks
returns-clause-lacks g c = subst (λ tracks. IsTrue c.lacks_key.result → SomeLacksKey g.O.Operand.tuples tracks) c.deref.ensures.value c.lacks_key.ensures.lacks

pub returns-clause-has : goal.returns-clause-has
returns-clause-has g c = subst (λ tracks. c.lacks_key.result ≡ false → AllHaveDoubled g.O.Operand.tuples tracks) c.deref.ensures.value c.lacks_key.ensures.has
