use Rattle.std.proofs.Common.{◌+◌, subst, arith}
use Rattle.bag_list.specs.Joins.{IsJoin}
use Rattle.bag_list.proofs.JoinLemmas.{join-least}
use Rattle.bag_list.proofs.ThroughLemmas.{holding-admits, holding-fixed}
use Rattle.bag_list.proofs.operands.Operands.least_at.Goals as goal

pub returns-clause-least : goal.returns-clause-least
returns-clause-least g c n k s here le =
    let depth_of = g.O.Operand.depth_of in
    let tuples = g.O.Operand.tuples in
    let old = c.args.self.now.tracks.items in
    let now = c.enter.new.self.tracks.items in
    let depth = c.args.sought.depth in
    let label = c.args.sought.label in
    let same = c.enter.ensures.kept.same.number in
    let fixed = c.enter.ensures.entered.0 in
    let join = subst (λ ts. IsJoin depth_of tuples ts (depth + 1) label c.gather.new.self) c.deref.ensures.value c.gather.ensures.join in
    (join-least depth_of tuples now (depth + 1) label c.gather.new.self join c.args.sought.from.0 c.next_key.result c.next_key.ensures).least k le
    (holding-admits depth_of tuples g.met.O.Operand.deep now (depth + 1) s.solution label k (λ i t p lt. (fixed i t p (omega (arith, lt, same))).part)
    (holding-fixed depth_of tuples g.met.O.Operand.deep old now depth c.args.level.label c.args.level.key.0 s.solution same fixed here s.holds) s.key)
