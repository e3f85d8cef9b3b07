use Rattle.std.proofs.Common.{◌≡◌, ◌+◌, ◌<◌, false, Some, IfSome, length, slice_index_or, slice_set, take, refl, sym, ◌∙◌, ap, subst, arith}
use Rattle.std.proofs.lemmas.List.{get_or_default, length-take-le, with_items_is}
use Rattle.std.specs.List.{AllByRecursion}
use Rattle.bag_list.specs.declared.level.Level.{Level}
use Rattle.bag_list.specs.Joins.{IsJoin}
use Rattle.bag_list.specs.Levels.{tells, to_come}
use Rattle.bag_list.specs.Operands.{AreRoom}
use Rattle.bag_list.specs.Search.{AreKept, id_solutions, weight}
use Rattle.bag_list.specs.Tracks.{rests}
use Rattle.bag_list.proofs.ComingLemmas.{opened}
use Rattle.bag_list.proofs.JoinLemmas.{joined-more, ready-to-open}
use Rattle.bag_list.proofs.SearchLemmas.{opened-at, opened-before, chosen-label, chosen-small, kept-opened, length-opened, opened_levels, opened-more}
use Rattle.bag_list.proofs.WeightLemmas.{opened-less}
use Rattle.bag_list.proofs.search.Search.open_level.Goals as goal

pub open-requires : goal.open-requires
open-requires g c =
    let s = c.args.self.now in
    ready-to-open g.O.Operand.depth_of g.O.Operand.tuples (tells s.columns.items s.distinct) s.levels.items s.depth s.told s.operands s.values.items
    (subst (λ b. AreKept g.O.Operand.depth_of g.O.Operand.tuples (tells s.columns.items s.distinct) s.levels.items s.depth b s.told s.operands.tracks.items s.values.items) c.requires.fresh c.requires.kept.kept)
    c.requires.deeper c.requires.kept.few c.requires.kept.room

pub index-requires-2 : goal.index-requires-2
index-requires-2 g c =
    let s = c.args.self.now in
    let k = c.requires.kept.kept in
    let within = subst (λ xs. c.choice-chosen.result < length xs) c.deref-2.ensures.value c.choice-chosen.ensures.within in
    let small = chosen-small s.levels.items c.swap.new.self.items s.depth c.choice-chosen.result c.index.result.now k.labels c.swap.ensures.items c.requires.deeper within c.index.ensures in
    let n = k.n_values in
    let is = c.from.ensures in
    omega (arith, small, n, is)

pub returns-clause-kept : goal.returns-clause-kept
returns-clause-kept g c =
    let s = c.args.self.now in
    let k = c.requires.kept.kept in
    let i = c.choice-chosen.result in
    let f : Level = record { label = c.index.result.now.label; key = c.index-2.result.now; from = Some (record { 0 = 0 }) } in
    let items : slice_set c.swap.new.self.items s.depth f ≡ opened_levels s.levels.items s.depth i f = ap (λ xs. slice_set xs s.depth f) c.swap.ensures.items in
    let within = subst (λ xs. i < length xs) c.deref-2.ensures.value c.choice-chosen.ensures.within in
    let long = length-opened s.levels.items s.depth i f c.choice-chosen.ensures.from within in
    let n : length (slice_set c.swap.new.self.items s.depth f) ≡ length s.levels.items = ap length items ∙ long in
    let small = chosen-small s.levels.items c.swap.new.self.items s.depth i c.index.result.now k.labels c.swap.ensures.items c.requires.deeper within c.index.ensures in
    record {
      kept = subst (λ ts. AreKept g.O.Operand.depth_of g.O.Operand.tuples (tells s.columns.items s.distinct) (slice_set c.swap.new.self.items s.depth f) (s.depth + 1) false s.told ts.items s.values.items) (sym c.open.ensures.tracks)
          (subst (λ L. AreKept g.O.Operand.depth_of g.O.Operand.tuples (tells s.columns.items s.distinct) L (s.depth + 1) false s.told s.operands.tracks.items s.values.items) (sym items)
          (kept-opened g.O.Operand.depth_of g.O.Operand.tuples (tells s.columns.items s.distinct) s.levels.items s.told s.operands.tracks.items s.values.items s.depth i f
          (subst (λ b. AreKept g.O.Operand.depth_of g.O.Operand.tuples (tells s.columns.items s.distinct) s.levels.items s.depth b s.told s.operands.tracks.items s.values.items) c.requires.fresh k)
          c.choice-chosen.ensures.from within c.choice-chosen.ensures.telling
          (chosen-label s.levels.items c.swap.new.self.items s.depth i c.index.result.now c.swap.ensures.items c.requires.deeper c.index.ensures)
          (λ d. get_or_default s.values.items c.index.result.now.label d c.index-2.result.now (let m = k.n_values in omega (arith, small, m)) ∙ ap (λ l. slice_index_or s.values.items l c.index-2.result.now) (sym c.from.ensures) ∙ sym c.index-2.ensures)));
      few = let few = c.requires.kept.few in omega (arith, n, few);
      columns = subst (λ m. AllByRecursion (λ v. IfSome v (λ l. l < m)) s.columns.items) (sym n) c.requires.kept.columns;
      room = subst (λ m. AreRoom m c.open.new.self) (sym n) (c.open.ensures.room (length s.levels.items) c.requires.kept.room);
      joins = joined-more g.O.Operand.depth_of g.O.Operand.tuples s.levels.items s.depth s.operands c.open.new.self c.requires.kept.joins (slice_set c.swap.new.self.items s.depth f) c.open.ensures.tracks
          (λ j h lt. ap (λ L. slice_index_or L j h) items ∙ opened-before s.levels.items s.depth i f c.choice-chosen.ensures.from within j h lt) c.open.ensures.others
          (λ h j. subst (λ k. IsJoin g.O.Operand.depth_of g.O.Operand.tuples s.operands.tracks.items s.depth k (slice_index_or c.open.new.self.joins.items s.depth j))
          (ap (λ k. k.label) (sym (ap (λ L. slice_index_or L s.depth h) items ∙ opened-at s.levels.items s.depth i f c.choice-chosen.ensures.from within h))) (c.open.ensures.join j));
      n_counts =
          let m : length c.choice-chosen.new.counts ≡ length s.counts.items = c.choice-chosen.auto.counts ∙ ap length c.deref_mut.ensures.value in
          ap length (with_items_is s.counts c.choice-chosen.new.counts (m ∙ sym s.counts.ok.0)) ∙ m ∙ c.requires.kept.n_counts ∙ sym n;
    }

pub returns-clause-coming : goal.returns-clause-coming
returns-clause-coming g c =
    let s = c.args.self.now in
    let i = c.choice-chosen.result in
    let f : Level = record { label = c.index.result.now.label; key = c.index-2.result.now; from = Some (record { 0 = 0 }) } in
    let items : slice_set c.swap.new.self.items s.depth f ≡ opened_levels s.levels.items s.depth i f = ap (λ xs. slice_set xs s.depth f) c.swap.ensures.items in
    let within = subst (λ xs. i < length xs) c.deref-2.ensures.value c.choice-chosen.ensures.within in
    let R = rests g.O.Operand.tuples s.operands.tracks.items in
    ap (λ ts. to_come (id_solutions (length (slice_set c.swap.new.self.items s.depth f)) (rests g.O.Operand.tuples ts.items)) (take (s.depth + 1) (slice_set c.swap.new.self.items s.depth f)) false) c.open.ensures.tracks
    ∙ ap (λ L. to_come (id_solutions (length L) R) (take (s.depth + 1) L) false) items
    ∙ (λ j. to_come (id_solutions (length-opened s.levels.items s.depth i f c.choice-chosen.ensures.from within j) R) (opened-more s.levels.items s.depth i f c.choice-chosen.ensures.from within j) false)
    ∙ opened (id_solutions (length s.levels.items) R) (take s.depth s.levels.items) f refl
    ∙ ap (to_come (id_solutions (length s.levels.items) R) (take s.depth s.levels.items)) (sym c.requires.fresh)

pub returns-clause-less : goal.returns-clause-less
returns-clause-less g c =
    let s = c.args.self.now in
    let i = c.choice-chosen.result in
    let f : Level = record { label = c.index.result.now.label; key = c.index-2.result.now; from = Some (record { 0 = 0 }) } in
    let items : slice_set c.swap.new.self.items s.depth f ≡ opened_levels s.levels.items s.depth i f = ap (λ xs. slice_set xs s.depth f) c.swap.ensures.items in
    let within = subst (λ xs. i < length xs) c.deref-2.ensures.value c.choice-chosen.ensures.within in
    let deeper = c.requires.deeper in
    let new = ap (λ L. weight (length L) (take (s.depth + 1) L) false) items ∙ (λ j. weight (length-opened s.levels.items s.depth i f c.choice-chosen.ensures.from within j) (opened-more s.levels.items s.depth i f c.choice-chosen.ensures.from within j) false) in
    let old = ap (weight (length s.levels.items) (take s.depth s.levels.items)) c.requires.fresh in
    let less = opened-less (length s.levels.items) (take s.depth s.levels.items) (let n = length-take-le s.depth s.levels.items (omega (arith, deeper)) in omega (arith, n, deeper)) f refl in
    omega (arith, new, old, less)
