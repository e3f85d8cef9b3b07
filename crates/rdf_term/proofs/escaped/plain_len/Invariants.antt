use Rattle.std.proofs.Common.{◌≡◌, ℕ, ◌<◌, get_or, true}
use Rattle.rdf_term.specs.Escapes.{stays}
use Rattle.rdf_term.proofs.escaped.plain_len.Given as goal

abbrev pub invariant-loop-i : goal.invariant-loop-i
invariant-loop-i l = (k : ℕ) → k < l.i → stays l.escapes (get_or l.bytes k 0) ≡ true
