use Rattle.std.proofs.Common.{ℕ, ◌≡◌, ◌≤◌, ◌^◌, Option, subst, sym, arith}
use Rattle.std.specs.Prelude.{MatchOption}
use Rattle.query_grammar.specs.Meaning.{value_of}
use Rattle.query_read.proofs.Numbers.{too_large}
use Rattle.query_read.proofs.limit.value_of.Goals as goal

pub returns-in_err-number : goal.returns-in_err-number
returns-in_err-number c =
    subst (λ (r : Option ℕ). MatchOption r (2 ^ 64 ≤ value_of c.args.digits.now) (λ n. n ≡ value_of c.args.digits.now)) (sym c.from_residual.ensures)
    (too_large c.args.digits.now c.loop-digit.digit-index c.loop-digit.number (2 ^ 64) (omega arith) c.loop-digit.invariant c.in_err-number.ensures)
