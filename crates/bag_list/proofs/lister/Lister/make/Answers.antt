use Rattle.std.proofs.Common.{◌<◌, sym, ◌∙◌, subst}
use Rattle.std.specs.List.{AllByRecursion}
use Rattle.std.specs.Prelude.{IfSome, map}
use Rattle.std.specs.Ordering.{nat_cmp}
use Rattle.bag_model.specs.Answers.{IsAnswer, chosen_rows}
use Rattle.bag_model.specs.Solutions.{row_of}
use Rattle.query_plan.specs.Labels.{column_labels}
use Rattle.bag_list.proofs.MakeLemmas.{answers-anywhere, starts-are, starts-labelled}
use Rattle.bag_list.proofs.lister.Lister.make.Goals as goal

pub of-requires-clause-starts : goal.of-requires-clause-starts
of-requires-clause-starts g c = starts-are g.O.Operand.depth_of g.O.Operand.tuples c.args.query.now.labels c.args.starts.now c.args.query.now.patterns c.requires.starts c.requires.labels.places

pub of-requires-clause-columns : goal.of-requires-clause-columns
of-requires-clause-columns g c = subst (AllByRecursion (λ v. IfSome v (λ l. l < c.args.query.now.labels))) (sym c.in_ok-columns.ensures) c.requires.labels.columns

pub returns-clause-answers : goal.returns-clause-answers
returns-clause-answers g c u universe rows may =
    let q = c.args.query.now in
    let starts = c.args.starts.now in
    let s = c.in_ok-search.search in
    let columns = c.in_ok-search.ensures.same.0 ∙ c.in_ok-columns.ensures in
    answers-anywhere g.O.Operand.tuples g.met.O.Operand.small starts q.labels (column_labels q.columns) q.distinct q.limit q.offset u rows
    (starts-labelled g.O.Operand.depth_of g.O.Operand.tuples q.labels starts q.patterns c.requires.starts c.requires.labels.each) universe
    (subst (λ chosen. IsAnswer q.limit q.offset chosen rows) (λ j. chosen_rows nat_cmp (c.in_ok-search.ensures.same.1 j) (map (row_of (columns j)) (c.in_ok-search.ensures.coming j))) may)
