use Rattle.query_read.proofs.TermsKnown.{AreKnown}
use Rattle.query_read.proofs.term.known_terms.Given as goal

abbrev pub invariant-loop-i : goal.invariant-loop-i
invariant-loop-i l = AreKnown l.known.items l.all l.i
