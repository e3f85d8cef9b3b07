use Rattle.std.proofs.Common.{◌≤◌, ◌∷◌, false, length, map, take, refl, ◌∙◌, subst, arith}
use Rattle.std.proofs.lemmas.List.Sorted.{IsPermutation-trans}
use Rattle.std.specs.List.Sorted.{IsPermutation}
use Rattle.std.specs.Ordering.{nat_cmp}
use Rattle.bag_model.specs.Answers.{chosen_rows}
use Rattle.bag_model.specs.Solutions.{row_of}
use Rattle.bag_list.specs.Levels.{tells, to_come}
use Rattle.bag_list.specs.Search.{coming_of, id_solutions, numbers}
use Rattle.bag_list.specs.Tracks.{rests}
use Rattle.bag_list.proofs.FoundLemmas.{found-here, to_come-none}
use Rattle.bag_list.proofs.RowLemmas.{found-row, no-rows}
use Rattle.bag_list.proofs.SearchLemmas.{kept-fewer}
use Rattle.bag_list.proofs.search.Search.next_row.Goals as goal

pub returns-then-self-eq0-clause-none : goal.returns-then-self-eq0-clause-none
returns-then-self-eq0-clause-none g c e =
    let s = c.args.self.now in
    let none = to_come-none _ _ c.loop-self.self.levels.items c.loop-self.self.depth c.loop-self.self.fresh c.if-self-eq0.true c.if-not-self.true c.loop-self.invariant.coming in (
      no-rows s.columns.items s.distinct _ none.0,
      no-rows c.loop-self.self.columns.items c.loop-self.self.distinct _ none.1,
    )

pub loop-self-preserved-then-not-self : goal.loop-self-preserved-then-not-self
loop-self-preserved-then-not-self g c =
    let i = c.loop-self.invariant in
    let o = c.go_on.ensures in
    record {
      kept = o.kept;
      same = record {
        n = o.same.n ∙ i.same.n;
        rests = o.same.rests ∙ i.same.rests;
        columns = o.same.columns ∙ i.same.columns;
        distinct = o.same.distinct ∙ i.same.distinct;
      };
      coming = IsPermutation-trans _ _ _ i.coming o.coming;
    }

pub returns-else-self-len-clause-kept : goal.returns-else-self-len-clause-kept
returns-else-self-len-clause-kept g c =
    let s = c.loop-self.self in
    let k = c.loop-self.invariant.kept in
    let deep : s.told ≤ s.depth = let le = c.if-self-len.false in let n = c.len.ensures in let told = k.kept.told_within in omega (arith, le, n, told) in
    record {
      kept = kept-fewer g.O.Operand.depth_of g.O.Operand.tuples (tells s.columns.items s.distinct) s.levels.items s.told s.operands.tracks.items s.values.items s.depth s.told s.fresh (omega (arith, deep)) deep k.kept;
      few = k.few;
      columns = k.columns;
      room = k.room;
      joins = λ i f j lt. k.joins i f j (omega (arith, lt, deep));
      n_counts = k.n_counts;
    }

pub returns-else-self-len-clause-some : goal.returns-else-self-len-clause-some
returns-else-self-len-clause-some g c e =
    let i = c.loop-self.invariant in
    let s = c.loop-self.self in
    let old = coming_of g.O.Operand.tuples c.args.self.now in
    let new = to_come (id_solutions (length s.levels.items) (rests g.O.Operand.tuples s.operands.tracks.items)) (take s.told s.levels.items) false in
    let row = row_of s.columns.items (numbers s.values.items) in
    subst (λ rows. IsPermutation rows (row ∷ chosen_rows nat_cmp s.distinct (map (row_of s.columns.items) new)))
    (λ j. chosen_rows nat_cmp (i.same.distinct j) (map (row_of (i.same.columns j)) old))
    (found-row s.columns.items s.distinct old new (numbers s.values.items)
    (found-here g.O.Operand.depth_of g.O.Operand.tuples g.met.O.Operand.deep (tells s.columns.items s.distinct) (tells s.columns.items s.distinct) s.levels.items s.depth s.fresh s.told s.operands.tracks.items s.values.items old i.kept.kept
    refl c.if-not-self.false (let le = c.if-self-len.false in let n = c.len.ensures in omega (arith, le, n)) i.coming))
