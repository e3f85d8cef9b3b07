use Rattle.std.proofs.Common.{◌≡◌, ◌≤◌, arith, ap, subst, ◌∙◌}
use Rattle.trie_context.specs.declared.tables.Tables.{Tables}
use Rattle.trie_context.specs.Holds.{holds_of, one_at, at_depth}
use Rattle.trie_context.specs.MoveLaws.{at_other}
use Rattle.worked_tries.proofs.LogSteps.{same_row}
use Rattle.worked_tries.proofs.logs.undone.Goals as goal

pub release-requires-2 : goal.release-requires-2
release-requires-2 g c =
    let others = c.in_ok-keys.others in
    let same : c.undo.new.context ≡ c.begin.new.context = c.undo.ensures c.ready_log.new.context c.change-changed.ensures.changed.led ∙ c.ready_log.ensures.same in
    let holds : holds_of c.undo.new.context 1 others ≡ holds_of c.begin.new.context 1 others = ap (λ (w : Tables). holds_of w 1 others) same in
    record {
      held = subst (λ q. 1 ≤ holds_of c.release.new.self 1 q) (same_row others c.of_edge-2.result c.of_edge-2.ensures)
          (omega (arith, c.release.ensures.moved.holds 1 others, at_other 2 (one_at c.of_edge.result) 1 others (λ is. omega arith), holds, c.in_ok-keys.ensures.others_held));
    }
