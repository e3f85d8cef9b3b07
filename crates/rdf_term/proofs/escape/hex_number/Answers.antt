use Rattle.std.proofs.Common.{◌<◌, length, arith}
use Rattle.rdf_term.proofs.Hex.{number_more, all_more, small, small_more}
use Rattle.rdf_term.proofs.escape.hex_number.Goals as goal

pub overflow_mul-number : goal.overflow_mul-number
overflow_mul-number c = omega (arith, small _ _ c.loop-digit.invariant.small (omega arith))

pub overflow_add-number : goal.overflow_add-number
overflow_add-number c = omega (arith, small _ _ c.loop-digit.invariant.small (omega arith), c.in_ok-hex_value.ensures)

pub loop-digit-preserved : goal.loop-digit-preserved
loop-digit-preserved c =
    let i = c.loop-digit.digit-index in
    let ds = c.args.digits.now in
    let here : i < length ds = omega arith in
    let v = c.from.result in
    record {
      so_far = let more = number_more ds i here in let digit = c.in_ok-hex_value.ensures in cc;
      each = all_more ds i here c.loop-digit.invariant.each c.in_ok-hex_value.ensures.0;
      small = small_more c.loop-digit.number i v c.loop-digit.invariant.small (omega (arith, c.in_ok-hex_value.ensures.2));
    }
