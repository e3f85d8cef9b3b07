use Rattle.std.proofs.Common.{◌≡◌, ℕ, ◌<◌, length, slice_index_or}
use Rattle.bag_list.specs.declared.join.Join.{Join}
use Rattle.bag_list.specs.Joins.{HasRoom}
use Rattle.bag_list.proofs.join.joins_of.Given as goal

abbrev pub invariant-loop-level : goal.invariant-loop-level
invariant-loop-level g l = (length l.joins.items ≡ l._level) × ((i : ℕ) (j : Join _) → i < l._level → HasRoom (length l.tracks) (slice_index_or l.joins.items i j))
