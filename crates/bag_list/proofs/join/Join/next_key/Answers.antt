use Rattle.std.proofs.Common.{◌<◌, length, take, sym, subst, arith}
use Rattle.key_join.specs.Common.{AllAdmit, AllFit}
use Rattle.key_join.specs.Least.{IsLeastFrom}
use Rattle.bag_list.proofs.TrackLemmas.{least-found, least-itself}
use Rattle.bag_list.proofs.join.Join.next_key.Goals as goal

pub returns-then-self-eq0 : goal.returns-then-self-eq0
returns-then-self-eq0 g c = least-itself c.args.from _ (λ j o m lt.
    let none = subst (λ n. j < length (take n c.args.self.now.ops.items)) c.if-self-eq0.true lt in
    absurd (omega (arith, none)))

pub returns : goal.returns
returns g c =
    let n = c.args.self.now.count in
    let found = c.next_common in
    subst (λ xs. IsLeastFrom c.args.from.0 (AllAdmit g.O.Operand.tuples (take n xs) (take n c.args.self.now.masks.items)) found.result) c.deref.ensures.value
    (subst (λ ys. IsLeastFrom c.args.from.0 (AllAdmit g.O.Operand.tuples (take n c.deref.result.now) (take n ys)) found.result) c.deref-2.ensures.value
    (least-found found.result _ _ _ (λ k h. h) (λ k h. h) found.ensures.none found.ensures.common found.ensures.from found.ensures.least))

pub next_common-requires-clause-fit : goal.next_common-requires-clause-fit
next_common-requires-clause-fit g c =
    let n = c.args.self.now.count in
    subst (λ xs. AllFit g.O.Operand.depth_of (take n xs) (take n c.deref-2.result.now)) (sym c.deref.ensures.value)
    (subst (λ ys. AllFit g.O.Operand.depth_of (take n c.args.self.now.ops.items) (take n ys)) (sym c.deref-2.ensures.value) c.requires.fit)
