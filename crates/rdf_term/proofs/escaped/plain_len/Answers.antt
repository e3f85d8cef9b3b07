use Rattle.std.proofs.Common.{◌∙◌, sym, arith, below_more, length}
use Rattle.std.proofs.lemmas.List.Sums.{prefix_len_is}
use Rattle.rdf_term.specs.Escapes.{stays}
use Rattle.rdf_term.proofs.escaped.plain_len.Goals as goal

pub returns-then-not-keeps : goal.returns-then-not-keeps
returns-then-not-keeps c =
    sym (prefix_len_is (stays c.args.escapes) c.args.bytes.now c.loop-i.i 0 (omega arith) c.loop-i.invariant (λ here. sym c.keeps.ensures ∙ c.if-not-keeps.true))

pub returns : goal.returns
returns c =
    sym (prefix_len_is (stays c.args.escapes) c.args.bytes.now (length c.args.bytes.now) 0 (omega arith) (λ k h. c.loop-i.invariant k (omega arith)) (λ here. absurd (omega arith)))

pub loop-i-preserved : goal.loop-i-preserved
loop-i-preserved c = below_more _ _ c.loop-i.invariant (sym c.keeps.ensures ∙ c.if-not-keeps.false)
