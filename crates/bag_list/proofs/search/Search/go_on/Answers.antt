use Rattle.std.proofs.Common.{◌≡◌, ◌==◌, ◌+◌, ◌-◌, ◌<◌, ◌≤◌, ℕ, true, false, length, slice_index_or, slice_set, take, refl, sym, ◌∙◌, ap, subst, arith}
use Rattle.std.proofs.lemmas.Bool.Decides.{nat_tests}
use Rattle.std.proofs.lemmas.List.{get_or_default, length-set}
use Rattle.std.proofs.lemmas.List.Sorted.{IsPermutation-refl}
use Rattle.std.specs.List.{AllByRecursion}
use Rattle.std.specs.List.Sorted.{IsPermutation}
use Rattle.std.specs.Prelude.{IfSome}
use Rattle.bag_list.specs.declared.level.Level.{Level}
use Rattle.bag_list.specs.Joins.{IsJoin}
use Rattle.bag_list.specs.Levels.{AreBelow, from_of, tells, to_come}
use Rattle.bag_list.specs.Search.{id_solutions}
use Rattle.bag_list.specs.Tracks.{AdmitsAt, AllAdmitAt, HasSolutionAt, rests}
use Rattle.bag_list.proofs.GoLemmas.{kept-back, kept-last, kept-with, last-small, less-back, less-on, rests-kept, to_come-last, went-back, went-on}
use Rattle.bag_list.proofs.JoinLemmas.{joined-levels, joined-same, label-set, room-of}
use Rattle.bag_list.proofs.Places.{permutation-equal}
use Rattle.bag_list.proofs.SearchLemmas.{kept-entered, kept-equal, labels-small}
use Rattle.bag_list.proofs.ThroughLemmas.{parts-same, sames-twice}
use Rattle.bag_list.proofs.search.Search.go_on.Goals as goal

not_last : (depth n : ℕ) → depth < n → (depth == n) ≡ false
not_last depth n lt = grind (arith, nat_tests)

pub index_mut-requires-in-Some : goal.index_mut-requires-in-Some
index_mut-requires-in-Some g c =
    let s = c.args.self.now in
    let k = kept-last g.O.Operand.depth_of g.O.Operand.tuples (tells s.columns.items s.distinct) s.levels.items s.depth s.fresh s.told s.operands.tracks.items s.values.items c.requires.kept.kept c.requires.stale c.requires.deep in
    let small = last-small g.O.Operand.depth_of g.O.Operand.tuples g.met.O.Operand.deep (tells s.columns.items s.distinct) s.levels.items s.told s.operands.tracks.items s.values.items (s.depth - 1) k c.index.result.now c.index.ensures in
    let n = c.requires.kept.kept.n_values in
    let is = c.from.ensures in
    omega (arith, small, n, is)

pub next_left-requires-clause-join : goal.next_left-requires-clause-join
next_left-requires-clause-join g c f j =
    let s = c.args.self.now in
    let d = c.requires.deep in
    subst (λ ls. IsJoin g.O.Operand.depth_of g.O.Operand.tuples s.operands.tracks.items (s.depth - 1) (slice_index_or ls (s.depth - 1) f).label (slice_index_or s.operands.joins.items (s.depth - 1) j)) (sym c.deref.ensures.value)
    (c.requires.kept.joins (s.depth - 1) f j (omega (arith, d)))

pub returns-in-None-clause-kept : goal.returns-in-None-clause-kept
returns-in-None-clause-kept g c =
    let s = c.args.self.now in
    let mid = c.next_left.new.self.tracks.items in
    let same_mid = c.next_left.ensures.kept.same in
    let kept = kept-with g.O.Operand.depth_of g.O.Operand.tuples (tells s.columns.items s.distinct) s.levels.items s.depth s.fresh s.told s.operands.tracks.items s.values.items c.requires.kept.kept c.requires.stale c.requires.deep mid same_mid in
    record {
      kept = kept-equal g.O.Operand.depth_of g.O.Operand.tuples (tells s.columns.items s.distinct) s.levels.items (s.depth - 1) (s.depth - 1) s.fresh s.told mid _ s.values.items s.values.items refl refl refl
          (kept-back g.O.Operand.depth_of g.O.Operand.tuples (tells s.columns.items s.distinct) s.levels.items s.depth s.fresh s.told mid s.values.items kept c.requires.stale c.requires.deep);
      few = c.requires.kept.few;
      columns = c.requires.kept.columns;
      room = room-of (length s.levels.items) c.next_left.new.self (ap (λ js. length js.items) c.next_left.ensures.kept.joins ∙ c.requires.kept.room.number) c.next_left.ensures.kept.ready.room;
      joins = joined-same g.O.Operand.depth_of g.O.Operand.tuples s.levels.items s.depth s.operands c.next_left.new.self c.requires.kept.joins (s.depth - 1) (s.depth - 1) same_mid c.next_left.ensures.kept.joins (omega arith) (omega arith);
      n_counts = c.requires.kept.n_counts;
    }

pub returns-in-None-clause-same : goal.returns-in-None-clause-same
returns-in-None-clause-same g c =
    let s = c.args.self.now in
    let mid = c.next_left.new.self.tracks.items in
    let same_mid = c.next_left.ensures.kept.same in
    record {
      n = refl;
      rests = rests-kept g.O.Operand.tuples (s.depth - 1) s.operands.tracks.items mid same_mid;
      columns = refl;
      distinct = refl;
    }

pub returns-in-None-clause-coming : goal.returns-in-None-clause-coming
returns-in-None-clause-coming g c =
    let s = c.args.self.now in
    let mid = c.next_left.new.self.tracks.items in
    let same_mid = c.next_left.ensures.kept.same in
    let patterns = rests-kept g.O.Operand.tuples (s.depth - 1) s.operands.tracks.items mid same_mid in
    let T = id_solutions (length s.levels.items) (rests g.O.Operand.tuples s.operands.tracks.items) in
    let k = kept-last g.O.Operand.depth_of g.O.Operand.tuples (tells s.columns.items s.distinct) s.levels.items s.depth s.fresh s.told s.operands.tracks.items s.values.items c.requires.kept.kept c.requires.stale c.requires.deep in
    let below = subst (AreBelow (length s.levels.items)) (sym c.deref.ensures.value) (labels-small s.levels.items c.requires.kept.kept.labels) in
    let at : slice_index_or c.deref.result.now (s.depth - 1) c.index.result.now ≡ c.index.result.now = ap (λ ls. slice_index_or ls (s.depth - 1) c.index.result.now) c.deref.ensures.value ∙ sym c.index.ensures in
    let none : (q : ℕ) → from_of c.index.result.now.from ≤ q → HasSolutionAt g.O.Operand.tuples (length s.levels.items) s.operands.tracks.items (s.depth - 1) c.index.result.now.label q → ⊥ = (λ q le h. c.in-None.ensures.least (length s.levels.items) q c.index.result.now below
    (subst (λ x. HasSolutionAt g.O.Operand.tuples (length s.levels.items) s.operands.tracks.items (s.depth - 1) x.label q) (sym at) h) (subst (λ x. from_of x.from ≤ q) (sym at) le)) in
    subst (IsPermutation (to_come T (take s.depth s.levels.items) s.fresh))
    (to_come-last g.O.Operand.depth_of g.O.Operand.tuples (tells s.columns.items s.distinct) s.levels.items s.depth s.fresh s.told s.operands.tracks.items s.values.items c.requires.kept.kept c.requires.stale c.requires.deep T
    ∙ went-back g.O.Operand.depth_of g.O.Operand.tuples g.met.O.Operand.deep (tells s.columns.items s.distinct) s.levels.items s.told s.operands.tracks.items s.values.items (s.depth - 1) k c.index.result.now c.index.ensures none
    ∙ (λ j. to_come (id_solutions (length s.levels.items) (sym patterns j)) (take (s.depth - 1) s.levels.items) (sym c.requires.stale j)))
    (IsPermutation-refl _)

pub returns-in-None-clause-less : goal.returns-in-None-clause-less
returns-in-None-clause-less g c =
    let s = c.args.self.now in
    less-back g.O.Operand.depth_of g.O.Operand.tuples (tells s.columns.items s.distinct) s.levels.items s.depth s.fresh s.told s.operands.tracks.items s.values.items c.requires.kept.kept c.requires.stale c.requires.deep c.index.result.now c.index.ensures

pub returns-in-Some-clause-less : goal.returns-in-Some-clause-less
returns-in-Some-clause-less g c =
    let s = c.args.self.now in
    let f : Level = record { label = c.index.result.now.label; key = c.in-Some.key; from = c.after.result } in
    less-on g.O.Operand.depth_of g.O.Operand.tuples (tells s.columns.items s.distinct) s.levels.items s.depth s.fresh s.told s.operands.tracks.items s.values.items c.requires.kept.kept c.requires.stale c.requires.deep c.index.result.now f true c.index.ensures (subst (λ x. from_of x.from ≤ c.in-Some.key.0) (ap (λ ls. slice_index_or ls (s.depth - 1) c.index.result.now) c.deref.ensures.value ∙ sym c.index.ensures) (c.in-Some.ensures.from c.index.result.now)) (let next = c.after.ensures.next in let most = c.after.ensures.within in omega (arith, next, most)) c.after.ensures.next

pub returns-in-Some-clause-same : goal.returns-in-Some-clause-same
returns-in-Some-clause-same g c =
    let s = c.args.self.now in
    let mid = c.next_left.new.self.tracks.items in
    let same_mid = c.next_left.ensures.kept.same in
    let now = c.enter_next.new.self.tracks.items in
    let same_now = c.enter_next.ensures.kept.same in
    record {
      n = length-set s.levels.items (s.depth - 1) _;
      rests = rests-kept g.O.Operand.tuples (s.depth - 1) mid now same_now ∙ rests-kept g.O.Operand.tuples (s.depth - 1) s.operands.tracks.items mid same_mid;
      columns = refl;
      distinct = refl;
    }

pub returns-in-Some-clause-kept : goal.returns-in-Some-clause-kept
returns-in-Some-clause-kept g c =
    let s = c.args.self.now in
    let f : Level = record { label = c.index.result.now.label; key = c.in-Some.key; from = c.after.result } in
    let mid = c.next_left.new.self.tracks.items in
    let same_mid = c.next_left.ensures.kept.same in
    let kept = kept-with g.O.Operand.depth_of g.O.Operand.tuples (tells s.columns.items s.distinct) s.levels.items s.depth s.fresh s.told s.operands.tracks.items s.values.items c.requires.kept.kept c.requires.stale c.requires.deep mid same_mid in
    let k = kept-last g.O.Operand.depth_of g.O.Operand.tuples (tells s.columns.items s.distinct) s.levels.items s.depth s.fresh s.told mid s.values.items kept c.requires.stale c.requires.deep in
    let now = c.enter_next.new.self.tracks.items in
    let same_now = c.enter_next.ensures.kept.same in
    let long = length-set s.levels.items (s.depth - 1) f in
    let joins = c.enter_next.ensures.kept.joins ∙ c.next_left.ensures.kept.joins in
    let within : s.depth - 1 < length s.levels.items = let w = c.requires.kept.kept.within in let d = c.requires.deep in omega (arith, w, d) in
    record {
      kept = kept-equal g.O.Operand.depth_of g.O.Operand.tuples (tells s.columns.items s.distinct) (slice_set s.levels.items (s.depth - 1) f) (s.depth - 1 + 1) s.depth true s.told now _ (slice_set s.values.items f.label f.key) (slice_set s.values.items c.from.result f.key)
          (let d = c.requires.deep in omega (arith, d)) refl (ap (λ l. slice_set s.values.items l f.key) c.from.ensures)
          (kept-entered g.O.Operand.depth_of g.O.Operand.tuples (tells s.columns.items s.distinct) s.levels.items s.told mid s.values.items (s.depth - 1) f now true k
          (λ h. ap (λ x. x.label) (c.index.ensures ∙ get_or_default s.levels.items (s.depth - 1) c.index.result.now h within)) c.after.ensures.next (let next = c.after.ensures.next in let most = c.after.ensures.within in omega (arith, next, most)) same_now.number same_now.each
          (λ _ before. (c.enter_next.ensures.entered (not_last s.depth c.len-in-Some.result (let n = c.len-in-Some.ensures in let d = c.requires.deep in omega (arith, n, long, d, before)))).0)
          (λ _ before. (c.enter_next.ensures.entered (not_last s.depth c.len-in-Some.result (let n = c.len-in-Some.ensures in let d = c.requires.deep in omega (arith, n, long, d, before)))).1)
          (λ whole. parts-same s.operands.tracks.items mid (s.depth - 1) same_mid.number same_mid.each (λ p. AdmitsAt g.O.Operand.tuples f.label p f.key.0)
          ((subst (λ x. AllAdmitAt g.O.Operand.tuples s.operands.tracks.items (s.depth - 1) x.label f.key.0) (ap (λ ls. slice_index_or ls (s.depth - 1) c.index.result.now) c.deref.ensures.value ∙ sym c.index.ensures)
          (c.in-Some.ensures.admitted c.index.result.now)))));
      few = let few = c.requires.kept.few in omega (arith, few, long);
      columns = subst (λ m. AllByRecursion (λ v. IfSome v (λ l. l < m)) s.columns.items) (sym long) c.requires.kept.columns;
      room = room-of (length (slice_set s.levels.items (s.depth - 1) f)) c.enter_next.new.self (ap (λ js. length js.items) joins ∙ c.requires.kept.room.number ∙ sym long) c.enter_next.ensures.kept.ready.room;
      joins = joined-levels g.O.Operand.depth_of g.O.Operand.tuples s.levels.items s.depth c.enter_next.new.self c.enter_next.new.self
          (joined-same g.O.Operand.depth_of g.O.Operand.tuples s.levels.items s.depth s.operands c.enter_next.new.self c.requires.kept.joins (s.depth - 1) s.depth
          (sames-twice (s.depth - 1) s.operands.tracks.items mid now same_mid same_now) joins (omega arith) (let d = c.requires.deep in omega (arith, d)))
          (slice_set s.levels.items (s.depth - 1) f) (λ i h _. label-set s.levels.items (s.depth - 1) f within (λ h. ap (λ x. x.label) (c.index.ensures ∙ get_or_default s.levels.items (s.depth - 1) c.index.result.now h within)) i h);
      n_counts = c.requires.kept.n_counts ∙ sym long;
    }

pub returns-in-Some-clause-coming : goal.returns-in-Some-clause-coming
returns-in-Some-clause-coming g c =
    let s = c.args.self.now in
    let f : Level = record { label = c.index.result.now.label; key = c.in-Some.key; from = c.after.result } in
    let T = id_solutions (length s.levels.items) (rests g.O.Operand.tuples s.operands.tracks.items) in
    let k = kept-last g.O.Operand.depth_of g.O.Operand.tuples (tells s.columns.items s.distinct) s.levels.items s.depth s.fresh s.told s.operands.tracks.items s.values.items c.requires.kept.kept c.requires.stale c.requires.deep in
    let mid = c.next_left.new.self.tracks.items in
    let same_mid = c.next_left.ensures.kept.same in
    let now = c.enter_next.new.self.tracks.items in
    let same_now = c.enter_next.ensures.kept.same in
    let patterns = rests-kept g.O.Operand.tuples (s.depth - 1) mid now same_now ∙ rests-kept g.O.Operand.tuples (s.depth - 1) s.operands.tracks.items mid same_mid in
    let long = length-set s.levels.items (s.depth - 1) f in
    let below = subst (AreBelow (length s.levels.items)) (sym c.deref.ensures.value) (labels-small s.levels.items c.requires.kept.kept.labels) in
    let at : slice_index_or c.deref.result.now (s.depth - 1) c.index.result.now ≡ c.index.result.now = ap (λ ls. slice_index_or ls (s.depth - 1) c.index.result.now) c.deref.ensures.value ∙ sym c.index.ensures in
    let least : (q : ℕ) → from_of c.index.result.now.from ≤ q → q < c.in-Some.key.0 → HasSolutionAt g.O.Operand.tuples (length s.levels.items) s.operands.tracks.items (s.depth - 1) c.index.result.now.label q → ⊥ =
    (λ q le lt h.
    let up = c.in-Some.ensures.least (length s.levels.items) q c.index.result.now below
    (subst (λ x. HasSolutionAt g.O.Operand.tuples (length s.levels.items) s.operands.tracks.items (s.depth - 1) x.label q) (sym at) h) (subst (λ x. from_of x.from ≤ q) (sym at) le) in
    absurd (omega (arith, up, lt))) in
    let last : s.depth ≡ s.depth - 1 + 1 = let d = c.requires.deep in omega (arith, d) in
    permutation-equal (to_come T (take (s.depth - 1 + 1) s.levels.items) false) _ (to_come T (take (s.depth - 1 + 1) (slice_set s.levels.items (s.depth - 1) f)) true) _
    (to_come-last g.O.Operand.depth_of g.O.Operand.tuples (tells s.columns.items s.distinct) s.levels.items s.depth s.fresh s.told s.operands.tracks.items s.values.items c.requires.kept.kept c.requires.stale c.requires.deep T)
    (λ j. to_come (id_solutions (long j) (patterns j)) (take (last j) (slice_set s.levels.items (s.depth - 1) f)) true)
    (went-on g.O.Operand.depth_of g.O.Operand.tuples g.met.O.Operand.deep (tells s.columns.items s.distinct) s.levels.items s.told s.operands.tracks.items s.values.items (s.depth - 1) k c.index.result.now c.index.ensures f true refl c.after.ensures.next (subst (λ x. from_of x.from ≤ c.in-Some.key.0) at (c.in-Some.ensures.from c.index.result.now)) least
    (λ e. absurd (let t : true ≡ false = e in let f : ⊥ = cc in f)))
