use Rattle.std.proofs.Common.{◌∙◌, ap, sym, get_or, arith, refl}
use Rattle.std.proofs.lemmas.Bool.{true≢false}
use Rattle.std.proofs.lemmas.List.{same_lists}
use Rattle.edge_map.proofs.short.Short.same_at_each.Goals as goal

pub returns-then-ne : goal.returns-then-ne
returns-then-ne c =
    ((λ t. absurd (true≢false (sym t))), (λ e. grind (arith, c.if-ne.true, c.ne.ensures, c.at.ensures c.at.result ∙ ap (λ es. get_or es c.loop-at.at c.at.result) e ∙ sym (c.at-in-loop-at.ensures c.at.result))))

pub returns : goal.returns
returns c = ((λ t. same_lists _ _ c.requires (λ k d lt. c.loop-at.invariant k d (omega (arith, lt, c.len-at-end.ensures, c.loop-at-test.false, c.loop-at.auto)))), (λ e. refl))
