use Rattle.tentris_core.proofs.SortedCallLemmas.{sorted_calls_agree, calls_carry_out}
use Rattle.tentris_core.proofs.laws.law_of_sorted_calls.Goals as goal

pub returns-clause-agree : goal.returns-clause-agree
returns-clause-agree c = sorted_calls_agree

pub returns-clause-calls : goal.returns-clause-calls
returns-clause-calls c = calls_carry_out
