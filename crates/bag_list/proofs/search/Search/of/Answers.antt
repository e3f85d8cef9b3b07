use Rattle.std.proofs.Common.{◌≡◌, ◌++◌, List, true, false, length, sym, ◌∙◌, subst, arith}
use Rattle.std.specs.List.{AllByRecursion, filter, range_with_len}
use Rattle.std.specs.Prelude.{IfSome, ◌<◌}
use Rattle.bag_list.specs.declared.level.Level.{Level}
use Rattle.bag_list.specs.Levels.{is_telling, level_labels}
use Rattle.bag_list.specs.Operands.{AreRoom}
use Rattle.bag_list.specs.Tracks.{AreTracks}
use Rattle.bag_list.proofs.BeginLemmas.{coming-begun, kept-begun, n-levels}
use Rattle.bag_list.proofs.search.Search.of.Goals as goal

pub returns-clause-kept : goal.returns-clause-kept
returns-clause-kept g c =
    let columns = c.args.columns.items in
    let levels = c.in_ok-levels.levels.items in
    let tracks = c.in_ok-operands.operands.tracks.items in
    let labels = subst (λ cs. level_labels levels ≡ filter (is_telling cs c.args.distinct true) (range_with_len 0 c.args.n) ++ filter (is_telling cs c.args.distinct false) (range_with_len 0 c.args.n)) c.deref.ensures.value c.in_ok-levels.ensures.labels in
    let told = subst (λ cs. c.in_ok-levels.told ≡ length (filter (is_telling cs c.args.distinct true) (range_with_len 0 c.args.n))) c.deref.ensures.value c.in_ok-levels.ensures.told in
    let long = n-levels g.O.Operand.depth_of g.O.Operand.tuples columns c.args.distinct c.args.n levels c.in_ok-levels.told labels told in
    let counts : length c.in_ok-counts.counts.items ≡ c.args.n = sym c.in_ok-counts.counts.ok.0 ∙ c.in_ok-counts.ensures.len ∙ c.from-n.ensures in
    record {
      kept = kept-begun g.O.Operand.depth_of g.O.Operand.tuples columns c.args.distinct c.args.n levels c.in_ok-levels.told labels told c.in_ok-operands.fresh tracks c.in_ok-values.values.items
          (sym c.in_ok-values.values.ok.0 ∙ c.in_ok-values.ensures.len ∙ c.from-n.ensures)
          (subst (λ n. (fs : List Level) → AreTracks g.O.Operand.depth_of g.O.Operand.tuples n 1 fs tracks) c.from-n.ensures c.in_ok-operands.ensures.tracks);
      few = let few = c.requires.few in omega (arith, few, long);
      columns = subst (λ m. AllByRecursion (λ v. IfSome v (λ l. l < m)) columns) (sym long) c.requires.columns;
      room = subst (λ m. AreRoom m c.in_ok-operands.operands) (c.from-n.ensures ∙ sym long) c.in_ok-operands.ensures.room;
      joins = λ i f j lt. absurd (omega (arith, lt));
      n_counts = counts ∙ sym long;
    }

pub returns-clause-coming : goal.returns-clause-coming
returns-clause-coming g c =
    let columns = c.args.columns.items in
    let levels = c.in_ok-levels.levels.items in
    let labels = subst (λ cs. level_labels levels ≡ filter (is_telling cs c.args.distinct true) (range_with_len 0 c.args.n) ++ filter (is_telling cs c.args.distinct false) (range_with_len 0 c.args.n)) c.deref.ensures.value c.in_ok-levels.ensures.labels in
    let told = subst (λ cs. c.in_ok-levels.told ≡ length (filter (is_telling cs c.args.distinct true) (range_with_len 0 c.args.n))) c.deref.ensures.value c.in_ok-levels.ensures.told in
    coming-begun g.O.Operand.tuples c.args.n c.args.starts.now levels c.in_ok-operands.operands.tracks.items c.in_ok-operands.fresh
    (n-levels g.O.Operand.depth_of g.O.Operand.tuples columns c.args.distinct c.args.n levels c.in_ok-levels.told labels told)
    c.in_ok-operands.ensures.whole c.in_ok-operands.ensures.empty
