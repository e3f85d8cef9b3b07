use Rattle.std.proofs.Common.{◌≡◌, ◌∷◌, [], true, false, length, refl, sym, ap, subst, arith}
use Rattle.std.proofs.lemmas.List.{length-append}
use Rattle.std.proofs.lemmas.List.Sorted.{length_permutation}
use Rattle.bag_model.specs.Answers.{IsAnswer}
use Rattle.bag_list.specs.Rows.{row_here, rows_to_come}
use Rattle.bag_list.proofs.ListingLemmas.{answer-row, answer-some, none-left, none-limited, none-there}
use Rattle.bag_list.proofs.lister.Lister.next.Goals as goal

pub returns-in_err-limit-clause-none : goal.returns-in_err-limit-clause-none
returns-in_err-limit-clause-none g c =
    let s = c.self.inside in (
      λ _. subst (λ v. IsAnswer v.limit v.offset v.rows []) c.self.view_is (none-limited s.limit s.offset (rows_to_come g.O.Operand.tuples s.search) (c.in_err-limit.ensures.none refl)),
      λ _. ap Rattle.std.specs.Option.is_some c.from_residual.ensures,
    )

pub returns-in_err-limit-clause-stays : goal.returns-in_err-limit-clause-stays
returns-in_err-limit-clause-stays g c _ =
    let s = c.self.inside in
    none-limited s.limit s.offset (rows_to_come g.O.Operand.tuples s.search) (c.in_err-limit.ensures.none refl)

pub returns-then-not-leave_out-clause-none : goal.returns-then-not-leave_out-clause-none
returns-then-not-leave_out-clause-none g c =
    let s = c.self.inside in
    let none = c.leave_out.ensures.none c.if-not-leave_out.true in (
      λ _. subst (λ v. IsAnswer v.limit v.offset v.rows []) c.self.view_is (none-left s.limit s.offset (rows_to_come g.O.Operand.tuples s.search) (let lt = none.0 in omega (arith, lt))),
      λ _. refl,
    )

pub returns-then-not-leave_out-clause-stays : goal.returns-then-not-leave_out-clause-stays
returns-then-not-leave_out-clause-stays g c _ =
    let s = c.self.inside in
    none-there s.limit s.offset (rows_to_come g.O.Operand.tuples c.leave_out.new.search) (c.leave_out.ensures.none c.if-not-leave_out.true).1

pub returns-then-not-next_row-clause-none : goal.returns-then-not-next_row-clause-none
returns-then-not-next_row-clause-none g c =
    let s = c.self.inside in
    let some = c.leave_out.ensures.some c.if-not-leave_out.false in
    let none = c.next_row.ensures.none c.if-not-next_row.true in
    let long = length_permutation _ _ some.2 in
    let both = length-append some.0 (rows_to_come g.O.Operand.tuples c.leave_out.new.search) in
    let nothing = ap length none.0 in
    let n = some.1 in (
      λ _. subst (λ v. IsAnswer v.limit v.offset v.rows []) c.self.view_is (none-left s.limit s.offset (rows_to_come g.O.Operand.tuples s.search) (omega (arith, long, both, nothing, n))),
      λ _. refl,
    )

pub returns-then-not-next_row-clause-stays : goal.returns-then-not-next_row-clause-stays
returns-then-not-next_row-clause-stays g c _ =
    none-there c.self.inside.limit 0 (rows_to_come g.O.Operand.tuples c.next_row.new.self) (c.next_row.ensures.none c.if-not-next_row.true).1

pub returns-clause-row : goal.returns-clause-row
returns-clause-row g c =
    let s = c.self.inside in
    let some = c.leave_out.ensures.some c.if-not-leave_out.false in
    let row = row_here c.next_row.new.self in
    record {
      row = row;
      present = refl;
      behind = λ given a. subst (λ v. IsAnswer v.limit v.offset v.rows (row ∷ given)) c.self.view_is
          (answer-row s.limit c.in_ok-limit.limit s.offset (rows_to_come g.O.Operand.tuples s.search) some.0 (rows_to_come g.O.Operand.tuples c.leave_out.new.search) row (rows_to_come g.O.Operand.tuples c.next_row.new.self) some.1 some.2
          (c.next_row.ensures.some c.if-not-next_row.false) c.in_ok-limit.ensures.some given a);
    }

pub returns-clause-none : goal.returns-clause-none
returns-clause-none g c =
    let s = c.self.inside in
    let some = c.leave_out.ensures.some c.if-not-leave_out.false in
    let row = row_here c.next_row.new.self in (
      λ e. absurd (let t : true ≡ false = e in let f : ⊥ = cc in f),
      λ m. absurd (answer-some s.limit c.in_ok-limit.limit s.offset (rows_to_come g.O.Operand.tuples s.search) some.0 (rows_to_come g.O.Operand.tuples c.leave_out.new.search) row (rows_to_come g.O.Operand.tuples c.next_row.new.self) some.1 some.2
          (c.next_row.ensures.some c.if-not-next_row.false) c.in_ok-limit.ensures.some (subst (λ v. IsAnswer v.limit v.offset v.rows []) (sym c.self.view_is) m)),
    )
