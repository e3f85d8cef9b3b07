use Rattle.std.proofs.Common.{arith}
use Rattle.slice_cases.proofs.FixedLemmas.{first_asked, second_asked, both_asked}
use Rattle.slice_cases.proofs.fixed.fix_entry.Goals as goal

pub returns-in-2-eq1 : goal.returns-in-2-eq1
returns-in-2-eq1 g c = first_asked c.args.e.now c.args.key.0 g.row.MASK c.eq-in-2-eq1.result (omega (arith, c.requires.full, c.in-2-eq1.is-0)) c.in-2-eq1.is-1 c.eq-in-2-eq1.ensures

pub returns-in-3-eq1 : goal.returns-in-3-eq1
returns-in-3-eq1 g c = first_asked c.args.e.now c.args.key.0 g.row.MASK c.eq-in-3-eq1.result (omega (arith, c.requires.full, c.in-3-eq1.is-0)) c.in-3-eq1.is-1 c.eq-in-3-eq1.ensures

pub returns-in-3-eq2 : goal.returns-in-3-eq2
returns-in-3-eq2 g c = second_asked c.args.e.now c.args.key.0 g.row.MASK c.eq-in-3-eq2.result (omega (arith, c.requires.full, c.in-3-eq2.is-0)) c.in-3-eq2.is-1 c.eq-in-3-eq2.ensures

pub returns-then-eq-2 : goal.returns-then-eq-2
returns-then-eq-2 g c = both_asked c.args.e.now c.args.key.0 g.row.MASK c.eq-in-3-eq3.result c.eq-then-eq-2.result (omega (arith, c.requires.full, c.in-3-eq3.is-0)) c.in-3-eq3.is-1 c.if-eq-2.true c.eq-in-3-eq3.ensures c.eq-then-eq-2.ensures
