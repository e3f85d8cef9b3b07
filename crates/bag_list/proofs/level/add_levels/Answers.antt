use Rattle.std.proofs.Common.{ap, ◌∙◌, refl, sym}
use mathlib.Core.Bool.{beq}
use Rattle.bag_list.specs.Levels.{level_labels}
use Rattle.bag_list.proofs.LevelLemmas.{labels_more, labels_same}
use Rattle.bag_list.proofs.level.add_levels.Goals.{then-tells-telling+in_ok-push, else-tells-telling}
use Rattle.bag_list.proofs.level.add_levels.Goals as goal

pub loop-label-preserved : goal.loop-label-preserved
loop-label-preserved c = elim c.if-tells-telling.branch [
  | then-tells-telling+in_ok-push w ↦
      ap (λ v. level_labels v.items) w.levels-is ∙ ap level_labels w.in_ok-push.ensures.items
      ∙ labels_more c.args.columns.now c.args.distinct c.args.telling c.loop-label.label _ c.loop-label.levels.items _ refl
      (ap (λ t. beq t c.args.telling) (sym c.tells.ensures) ∙ w.if-tells-telling.true) c.loop-label.invariant
  | else-tells-telling w ↦
      ap (λ v. level_labels v.items) w.levels-is
      ∙ labels_same c.args.columns.now c.args.distinct c.args.telling c.loop-label.label _ c.loop-label.levels.items
      (ap (λ t. beq t c.args.telling) (sym c.tells.ensures) ∙ w.if-tells-telling.false) c.loop-label.invariant
]
