use Rattle.std.proofs.Common.{◌≡◌, ◌+◌, [], true, false, length, take, sym, ◌∙◌, ap, arith}
use Rattle.bag_list.specs.Levels.{n_fresh, to_come}
use Rattle.bag_list.specs.Search.{id_solutions, weight}
use Rattle.bag_list.specs.Tracks.{rests}
use Rattle.bag_list.proofs.LackLemmas.{lacking-none}
use Rattle.bag_list.proofs.WeightLemmas.{power-some}
use Rattle.bag_list.proofs.search.Search.open.Goals as goal

pub returns-then-lacks_key-clause-coming : goal.returns-then-lacks_key-clause-coming
returns-then-lacks_key-clause-coming g c =
    let s = c.args.self.now in
    let T = id_solutions (length s.levels.items) (rests g.O.Operand.tuples s.operands.tracks.items) in
    let none : T ≡ [] =
    lacking-none g.O.Operand.depth_of g.O.Operand.tuples g.met.O.Operand.deep (length s.levels.items) (s.depth + n_fresh s.fresh) s.levels.items s.operands.tracks.items c.requires.kept.kept.patterns
    (let one = ap n_fresh c.requires.fresh in omega (arith, one)) (c.lacks_key.ensures.lacks c.if-lacks_key.true) in
    let new : to_come T (take s.depth s.levels.items) false ≡ [] = (λ j. to_come (none j) (take (c.if-self-eq0.true j) s.levels.items) false) in
    let old : to_come T (take s.depth s.levels.items) s.fresh ≡ [] = (λ j. to_come (none j) (take (c.if-self-eq0.true j) s.levels.items) (c.requires.fresh j)) in
    new ∙ sym old

pub returns-then-lacks_key-clause-less : goal.returns-then-lacks_key-clause-less
returns-then-lacks_key-clause-less g c =
    let s = c.args.self.now in
    let n = length s.levels.items in
    let new : weight n (take s.depth s.levels.items) false ≡ 0 = (λ j. weight n (take (c.if-self-eq0.true j) s.levels.items) false) in
    let old : weight n (take s.depth s.levels.items) s.fresh ≡ weight n [] true = (λ j. weight n (take (c.if-self-eq0.true j) s.levels.items) (c.requires.fresh j)) in
    let some = power-some n in
    omega (arith, new, old, some)
