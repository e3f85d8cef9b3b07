use Rattle.std.proofs.Common.{◌≡◌, length}
use Rattle.edge_map.proofs.walk.same_walks.Given as goal

-- the walks have the same entries where those that are left are the same
abbrev pub invariant-loop-entry : goal.invariant-loop-entry
invariant-loop-entry l = (l.fn.left ≡ l.fn.right → l.left ≡ l.right) × (l.left ≡ l.right → l.fn.left ≡ l.fn.right)

abbrev pub decreases-loop-entry : goal.decreases-loop-entry
decreases-loop-entry l = length l.left
