use Rattle.std.proofs.Common.{◌≡◌, ℕ, ◌<◌, ◌≤◌, ◌+◌, List, ◌++◌, ◌∙◌, length, take, drop, sym, ap, arith}
use Rattle.std.proofs.lemmas.List.{take-append-drop}
use Rattle.std.proofs.lemmas.List.Sums.{prefix_len-le-length}
use Rattle.std.specs.List.{prefix_len}
use Rattle.rdf_term.specs.Body.{fits_of}
use Rattle.rdf_term.proofs.Pieces.{ends_in_front, goes_on_behind}
use Rattle.rdf_term.proofs.body.run_len.Goals as goal

whole : (n : ℕ) (front rest bytes : List ℕ) → front ≡ take n bytes → rest ≡ drop n bytes → front ++ rest ≡ bytes
whole n front rest bytes first last = (λ j. first j ++ last j) ∙ take-append-drop n bytes

pub returns-then-len-front : goal.returns-then-len-front
returns-then-len-front c =
    let fits = fits_of c.args.form in
    let front = c.split_at.result.0.now in
    let rest = c.split_at.result.1.now in
    let is = c.run_len_by_bytes-len.ensures in
    let less : prefix_len fits front < length front = omega (arith, is, c.if-len-front.true) in
    is ∙ sym (ends_in_front fits front rest less) ∙ ap (prefix_len fits) (whole c.min.result front rest c.args.bytes.now c.split_at.ensures.front c.split_at.ensures.back)

pub overflow_add-result : goal.overflow_add-result
overflow_add-result c =
    let fits = fits_of c.args.form in
    let front = prefix_len-le-length fits c.split_at.result.0.now in
    let rest = prefix_len-le-length fits c.split_at.result.1.now in
    omega (arith, c.run_len_by_bytes-len.ensures, c.long_run_len.ensures, front, rest, c.split_at.ensures.front_len, c.split_at.ensures.back_len)

pub returns : goal.returns
returns c =
    let fits = fits_of c.args.form in
    let front = c.split_at.result.0.now in
    let rest = c.split_at.result.1.now in
    let all : length front ≤ prefix_len fits front = omega (arith, c.run_len_by_bytes-len.ensures, c.if-len-front.false) in
    (λ j. c.run_len_by_bytes-len.ensures j + c.long_run_len.ensures j) ∙ goes_on_behind fits front rest all ∙ ap (prefix_len fits) (whole c.min.result front rest c.args.bytes.now c.split_at.ensures.front c.split_at.ensures.back)
