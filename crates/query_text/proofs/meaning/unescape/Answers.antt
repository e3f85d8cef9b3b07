use Rattle.std.proofs.Common.{◌≡◌, length, refl, arith}
use Rattle.std.proofs.lemmas.Bool.Decides.{nat_tests}
use Rattle.query_text.proofs.CharactersRead.{none_of}
use Rattle.query_text.proofs.EscapesRead.{meant_whole}
use Rattle.query_text.proofs.meaning.unescape.Goals as goal

pub returns : goal.returns
returns c =
    let none : length c.loop-rest.rest.now ≡ 0 = grind (arith, nat_tests) in
    meant_whole _ _ _ c.loop-rest.invariant.1 (none_of c.loop-rest.rest.now c.loop-rest.rest.now refl none)
