use Rattle.std.proofs.lemmas.Cmp.{nat_cmp_total}
use Rattle.std.specs.FinMap.{nat_cmp-IsAntisymmetric}
use Rattle.bag_model.specs.SolutionLaws.{rows_alike}
use Rattle.bag_model.proofs.rows_over_any_universe.Goals as goal

pub returns : goal.returns
returns c = rows_alike nat_cmp_total nat_cmp-IsAntisymmetric
