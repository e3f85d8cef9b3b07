use Rattle.std.proofs.Common.{inl, inr, refl}
use Rattle.tentris_core.proofs.CallLemmas.{writes_help}
use Rattle.tentris_core.proofs.running.show_help.Goals as goal

pub returns-in-Ok-clause-ends : goal.returns-in-Ok-clause-ends
returns-in-Ok-clause-ends g c = writes_help _ _ _ (inl refl) c.write_all.ensures.grows

pub returns-in-Err-clause-ends : goal.returns-in-Err-clause-ends
returns-in-Err-clause-ends g c = writes_help _ _ _ (inr refl) c.write_all.ensures.grows
