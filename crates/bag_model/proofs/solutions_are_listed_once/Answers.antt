use Rattle.std.specs.Prelude.{◌&&◌}
use Rattle.std.proofs.Common.{sym, ◌∙◌}
use Rattle.std.specs.Ordering.{nat_cmp}
use Rattle.std.proofs.lemmas.Cmp.{nat_cmp_total}
use Rattle.std.specs.FinMap.{nat_cmp-IsAntisymmetric}
use Rattle.hypertrie_model.specs.SetLaws.{and_both}
use Rattle.bag_model.specs.SolutionLaws.{any-solutions, distinct-solutions, is_assignment, solution-all, all-solution}
use Rattle.bag_model.specs.Solutions.{is_solution}
use Rattle.bag_model.proofs.solutions_are_listed_once.Goals as goal

pub returns : goal.returns
returns c = record {
  listed = λ u n rests a. (
    (λ e.
        let two = and_both (is_assignment nat_cmp u n a) (is_solution nat_cmp rests a) (sym (any-solutions nat_cmp_total nat_cmp-IsAntisymmetric u n rests a) ∙ e) in
        (two.0, solution-all rests a two.1)),
    (λ p. any-solutions nat_cmp_total nat_cmp-IsAntisymmetric u n rests a ∙ (λ j. p.0 j && all-solution rests a p.1 j)),
  );
  once = distinct-solutions nat_cmp_total nat_cmp-IsAntisymmetric;
}
