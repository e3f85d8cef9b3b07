use Rattle.std.proofs.Common.{drop}
use Rattle.query_grammar.specs.Meaning.{is_sign}
use Rattle.query_grammar.specs.Signs.{sign_of}
use Rattle.query_text.specs.Seen.{sign_seen}
use Rattle.query_read.proofs.PlacesFound.{IsPlaceSoFar}
use Rattle.query_read.proofs.place.place_of.Given as goal

abbrev pub invariant-loop-i : goal.invariant-loop-i
invariant-loop-i l = IsPlaceSoFar (λ x. is_sign (sign_seen l.sign) (sign_of x)) l.all (drop l.i l.all) l.i
