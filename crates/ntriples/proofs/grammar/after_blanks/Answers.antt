use Rattle.std.proofs.Common.{◌-◌, length, drop, take, ap, arith}
use Rattle.std.proofs.lemmas.List.{length-drop, length-take}
use Rattle.ntriples.proofs.TermLemmas.{length-after_blanks}
use Rattle.ntriples.proofs.grammar.after_blanks.Goals as goal

pub returns-in-32-rest-clause-within : goal.returns-in-32-rest-clause-within
returns-in-32-rest-clause-within c =
    let bs = c.args.bytes.now in
    let n = length bs - 1 in
    omega (arith, ap length c.skip_blanks.ensures, length-after_blanks (take n (drop 1 bs)), length-take n (drop 1 bs), length-drop 1 bs)
