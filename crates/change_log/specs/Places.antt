-- The places of a log among the reserved numbers.
use Rattle.std.specs.Prelude.{◌≡◌, ℕ, List}
use Rattle.change_log.specs.declared.step.Step.{Step}
use Rattle.change_log.specs.Log.{Reserved, HasPlaces, frees}

-- the log's places are reserved, each once, and beside them those numbers that were reserved before, and no others
pub record ArePlacesBeside (steps : List Step) (before after : Reserved) : Type 0 where
  pub places : HasPlaces steps after
  pub others : (d : ℕ) → frees steps after d ≡ before d
