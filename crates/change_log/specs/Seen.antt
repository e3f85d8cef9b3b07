-- What contracts see of a log.
use Rattle.std.specs.Prelude.{ℕ, List, refl}
use Rattle.std.specs.Coded.{Coded, code_by, coded×, coded_ℕ, coded_list}
use Rattle.change_log.specs.declared.step.Step.{Step}
use Rattle.change_log.specs.contracts.step.Step as step

-- the steps, the newest first, and for how many more there is room
pub record Seen : Type 0 where
  pub steps : List Step
  pub spare : ℕ

abbrev pub seen_code : Coded Seen
seen_code = code_by (List Step × ℕ) (coded× (coded_list step.the_row.coded) coded_ℕ) (λ s. (s.steps, s.spare)) (λ p. record { steps = p.0; spare = p.1 }) (λ _. refl)
