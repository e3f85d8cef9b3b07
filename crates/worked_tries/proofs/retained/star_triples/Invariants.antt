use Rattle.std.proofs.Common.{◌≡◌, ◌++◌, ◌+◌, ◌-◌}
use Rattle.worked_tries.specs.Star.{rays}
use Rattle.worked_tries.proofs.retained.star_triples.Given as goal

-- with those that are to come it is the whole list
abbrev pub invariant-loop-n : goal.invariant-loop-n
invariant-loop-n l = l.triples.items ++ rays (5 + l.n) (l.objects - l.n) ≡ rays 5 l.objects
