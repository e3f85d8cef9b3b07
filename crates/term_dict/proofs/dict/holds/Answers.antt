use Rattle.std.proofs.Common.{Some, sym, ap, ◌∙◌}
use Rattle.term_dict.proofs.DictLemmas.{same_some}
use Rattle.term_dict.proofs.dict.holds.Goals as goal

pub returns-in-Some : goal.returns-in-Some
returns-in-Some c = (
  λ yes. c.in-Some.ensures ∙ ap Some (c.is_same_ref.ensures.0 yes),
  λ is. c.is_same_ref.ensures.1 (same_some _ _ (sym c.in-Some.ensures ∙ is)),
)

pub returns-in-None : goal.returns-in-None
returns-in-None c = (λ yes. absurd (cc), λ is. absurd (let t = sym c.in-None.ensures ∙ is in cc))
