use Rattle.std.proofs.Common.{◌-◌, length}
use Rattle.rdf_term.proofs.SoFar.{IsSoFar}
use Rattle.rdf_term.proofs.body.read_body.Given as goal

abbrev pub invariant-loop-run : goal.invariant-loop-run
invariant-loop-run l = IsSoFar l.form l.bytes l.fn.to l.to l.at

abbrev pub decreases-loop-run : goal.decreases-loop-run
decreases-loop-run l = length l.bytes - l.at
