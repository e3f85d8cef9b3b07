use Rattle.std.proofs.Common.{◌≡◌, ℕ, ◌<◌, get_or, true}
use Rattle.rdf_term.specs.Body.{fits_of}
use Rattle.rdf_term.proofs.body.run_len_by_bytes.Given as goal

abbrev pub invariant-loop-i : goal.invariant-loop-i
invariant-loop-i l = (k : ℕ) → k < l.i → fits_of l.form (get_or l.bytes k 0) ≡ true
