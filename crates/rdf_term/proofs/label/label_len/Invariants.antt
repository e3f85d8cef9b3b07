use Rattle.std.proofs.Common.{◌-◌, length}
use Rattle.rdf_term.proofs.LabelLemmas.{IsLabelSoFar}
use Rattle.rdf_term.proofs.label.label_len.Given as goal

abbrev pub invariant-loop-c : goal.invariant-loop-c
invariant-loop-c l = IsLabelSoFar l.bytes l.end l.at

abbrev pub decreases-loop-c : goal.decreases-loop-c
decreases-loop-c l = length l.bytes - l.at
