use Rattle.std.proofs.Common.{length, subst}
use Rattle.bag_list.specs.Joins.{AllHaveRoom, HasRoom}
use Rattle.bag_list.proofs.operands.Operands.of.Goals as goal

pub returns-clause-room : goal.returns-clause-room
returns-clause-room g c = record {
  number = c.in_ok-joins.ensures.number;
  joins = subst (λ ts. AllHaveRoom (length ts) c.args.n c.in_ok-joins.joins.items) c.deref.ensures.value c.in_ok-joins.ensures.room;
  other = subst (λ ts. HasRoom (length ts) c.in_ok-other.other) c.deref-2.ensures.value c.in_ok-other.ensures;
  behind = subst (λ ts. HasRoom (length ts) c.in_ok-behind.behind) c.deref-3.ensures.value c.in_ok-behind.ensures;
}

pub returns-clause-whole : goal.returns-clause-whole
returns-clause-whole g c = c.in_ok-tracks.ensures.whole
