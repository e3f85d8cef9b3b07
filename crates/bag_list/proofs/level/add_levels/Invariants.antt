use Rattle.std.proofs.Common.{◌≡◌, ◌++◌}
use Rattle.std.specs.List.{filter, range_with_len}
use Rattle.bag_list.specs.Levels.{level_labels, is_telling}
use Rattle.bag_list.proofs.level.add_levels.Given as goal

abbrev pub invariant-loop-label : goal.invariant-loop-label
invariant-loop-label l = level_labels l.levels.items ≡ level_labels l.fn.levels.items ++ filter (is_telling l.columns l.distinct l.telling) (range_with_len 0 l.label)
