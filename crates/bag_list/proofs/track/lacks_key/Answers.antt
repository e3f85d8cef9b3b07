use Rattle.std.proofs.Common.{ℕ, get_or, sym, ◌∙◌, subst, inl, inr, arith}
use Rattle.std.proofs.lemmas.Bool.{cases_eq}
use Rattle.std.proofs.lemmas.List.{get_or_default}
use Rattle.bag_list.specs.Tracks.{HasDoubledIn, LacksKeyIn}
use Rattle.bag_list.proofs.track.lacks_key.Goals as goal

pub returns-then-lacks_key-clause-lacks : goal.returns-then-lacks_key-clause-lacks
returns-then-lacks_key-clause-lacks g c _ =
    let tracks = c.args.tracks.now in
    let x = c.index-tracks-i.result in
    let lt = c.loop-i-test.true in
    (c.loop-i.i, lt, λ t. subst (LacksKeyIn g.O.Operand.tuples) (sym (get_or_default tracks c.loop-i.i t x lt ∙ sym c.index-tracks-i.is)) (c.lacks_key.ensures.lacks c.if-lacks_key.true))

pub loop-i-preserved : goal.loop-i-preserved
loop-i-preserved g c k t lt =
    let tracks = c.args.tracks.now in
    let x = c.index-tracks-i.result in
    let here = sym (get_or_default tracks c.loop-i.i t x c.loop-i-test.true ∙ sym c.index-tracks-i.is) in
    elim (cases_eq k c.loop-i.i) [
      | inl is ↦ subst (λ (n : ℕ). HasDoubledIn g.O.Operand.tuples (get_or tracks n t)) (sym is) (subst (HasDoubledIn g.O.Operand.tuples) here (c.lacks_key.ensures.has c.if-lacks_key.false))
      | inr ne ↦ c.loop-i.invariant k t (omega (arith, lt, ne))
    ]

pub returns-clause-has : goal.returns-clause-has
returns-clause-has g c _ i t lt = c.loop-i.invariant i t (let end = c.loop-i-test.false in omega (arith, lt, end))
