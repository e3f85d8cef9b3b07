use Rattle.std.proofs.Common.{ℕ, ◌<◌, List, sym, subst, arith, Option, Bor}
use Rattle.query_text.specs.Reads.{ReadsNumber}
use Rattle.query_text.proofs.EscapesRead.{hex_begins, hex_goes_on, hex_ends_early, hex_breaks_off}
use Rattle.rdf_term.proofs.Hex.{small}
use Rattle.query_text.proofs.escape.hex_number.Goals as goal

pub loop-init : goal.loop-init
loop-init c = (c.utf8.text, hex_begins c.args.text.now)

pub returns-in_err-c : goal.returns-in_err-c
returns-in_err-c c =
    let less : c.loop.counter < c.args.count = omega arith in
    subst (λ (r : Option (ℕ × Bor (List ℕ))). ReadsNumber c.args.count c.args.text.now r) (sym c.from_residual.ensures)
    (hex_ends_early _ _ _ _ _ c.loop.invariant.1 less c.in_err-c.ensures)

pub overflow_mul-number : goal.overflow_mul-number
overflow_mul-number c = omega (arith, small _ _ c.loop.invariant.1.small (omega arith))

pub returns-in_err-number : goal.returns-in_err-number
returns-in_err-number c =
    let less : c.loop.counter < c.args.count = omega arith in
    subst (λ (r : Option (ℕ × Bor (List ℕ))). ReadsNumber c.args.count c.args.text.now r) (sym c.from_residual-in_err-number.ensures)
    (hex_breaks_off _ _ _ _ _ _ _ c.loop.invariant.1 less c.in_ok-c.ensures.0 c.in_err-number.ensures)

pub overflow_add-number : goal.overflow_add-number
overflow_add-number c = omega (arith, small _ _ c.loop.invariant.1.small (omega arith), c.in_ok-number.ensures.2)

pub loop-preserved : goal.loop-preserved
loop-preserved c =
    (c.in_ok-c.ensures.2, hex_goes_on _ _ _ _ _ _ _ c.loop.invariant.1 c.in_ok-c.ensures.0 c.in_ok-c.ensures.1 c.in_ok-number.ensures.0 c.in_ok-number.ensures.1 c.in_ok-number.ensures.2)
