use Rattle.std.proofs.Common.{◌≡◌, ◌≤◌, ◌+◌, ◌∷◌, List, Some, ap, sym, subst, ◌∙◌}
use Rattle.edge_map.specs.declared.edge.Edge.TheVariants.{Node as ToRow}
use Rattle.trie_context.specs.Holds.{holds_of}
use Rattle.trie_context.specs.Interned.{kept_row}
use Rattle.change_log.specs.declared.step.RowStep.TheVariants.{Opened, Replaced}
use Rattle.change_log.specs.declared.step.Step.{Step}
use Rattle.change_log.specs.declared.step.Step.TheVariants.{Keys, Pairs}
use Rattle.change_log.specs.Log.{keeps}
use Rattle.worked_tries.specs.Logs.{IsChanged, kept_step}
use Rattle.worked_tries.proofs.LogSteps.{same_row, first_changed, first_room, second_changed, second_room, pairs_held, pairs_form, third_changed, third_held}
use Rattle.worked_tries.proofs.logs.change.Goals as goal

pub returns-in_err-reserve-clause-changed : goal.returns-in_err-reserve-clause-changed
returns-in_err-reserve-clause-changed g c =
    subst (IsChanged g.M.Mix.mixed c.args.context.now c.open.new.self) (sym (c.reserve.ensures.same ∙ c.push.ensures ∙ ap (λ (steps : List Step). Pairs (Opened c.in-Ok.place c.in-Ok.node) ∷ steps) c.requires.empty))
    (first_changed g.M.Mix.mixed c.args.context.now c.is_kept.ensures c.args.keys c.args.others c.args.row c.args.other_pairs c.requires.can c.open.new.self c.in-Ok.place c.in-Ok.node (c.in-Ok.ensures.number ∙ sym (same_row c.args.row c.of_edge.result c.of_edge.ensures)) c.in-Ok.ensures.opened)

pub retain_edge-requires-clause-room : goal.retain_edge-requires-clause-room
retain_edge-requires-clause-room g c = first_room g.M.Mix.mixed c.args.context.now c.is_kept.ensures c.args.keys c.args.others c.args.row c.args.other_pairs c.requires.can c.open.new.self c.in-Ok.place c.in-Ok.node (c.in-Ok.ensures.number ∙ sym (same_row c.args.row c.of_edge.result c.of_edge.ensures)) c.in-Ok.ensures.opened

pub returns-in_err-reserve-2-clause-changed : goal.returns-in_err-reserve-2-clause-changed
returns-in_err-reserve-2-clause-changed g c =
    subst (IsChanged g.M.Mix.mixed c.args.context.now c.retain_edge.new.self) (sym (c.reserve-2.ensures.same ∙ c.push-2.ensures ∙ ap (λ (steps : List Step). Keys (Replaced (Some (ToRow c.args.keys)) (Some (ToRow c.args.others))) ∷ steps) (c.reserve.ensures.same ∙ c.push.ensures ∙ ap (λ (steps : List Step). Pairs (Opened c.in-Ok.place c.in-Ok.node) ∷ steps) c.requires.empty)))
    (second_changed g.M.Mix.mixed c.args.context.now c.is_kept.ensures c.args.keys c.args.others c.args.row c.args.other_pairs c.requires.can c.open.new.self c.in-Ok.place c.in-Ok.node (c.in-Ok.ensures.number ∙ sym (same_row c.args.row c.of_edge.result c.of_edge.ensures)) c.in-Ok.ensures.opened
    c.retain_edge.new.self c.retain_edge.ensures.moved c.retain_edge.ensures.counts c.retain_edge.ensures.stay)

pub intern_or_keep-requires-clause-form : goal.intern_or_keep-requires-clause-form
intern_or_keep-requires-clause-form g c =
    pairs_form g.M.Mix.mixed c.args.context.now c.is_kept.ensures c.args.keys c.args.others c.args.row c.args.other_pairs c.requires.can c.open.new.self c.in-Ok.place c.in-Ok.node (c.in-Ok.ensures.number ∙ sym (same_row c.args.row c.of_edge.result c.of_edge.ensures)) c.in-Ok.ensures.opened
    c.retain_edge.new.self c.retain_edge.ensures.moved c.retain_edge.ensures.counts c.retain_edge.ensures.stay

pub intern_or_keep-requires-clause-held : goal.intern_or_keep-requires-clause-held
intern_or_keep-requires-clause-held g c =
    pairs_held g.M.Mix.mixed c.args.context.now c.is_kept.ensures c.args.keys c.args.others c.args.row c.args.other_pairs c.requires.can c.open.new.self c.in-Ok.place c.in-Ok.node (c.in-Ok.ensures.number ∙ sym (same_row c.args.row c.of_edge.result c.of_edge.ensures)) c.in-Ok.ensures.opened
    c.retain_edge.new.self c.retain_edge.ensures.moved c.retain_edge.ensures.counts c.retain_edge.ensures.stay

pub intern_or_keep-requires-clause-room : goal.intern_or_keep-requires-clause-room
intern_or_keep-requires-clause-room g c =
    second_room g.M.Mix.mixed c.args.context.now c.is_kept.ensures c.args.keys c.args.others c.args.row c.args.other_pairs c.requires.can c.open.new.self c.in-Ok.place c.in-Ok.node (c.in-Ok.ensures.number ∙ sym (same_row c.args.row c.of_edge.result c.of_edge.ensures)) c.in-Ok.ensures.opened
    c.retain_edge.new.self c.retain_edge.ensures.moved c.retain_edge.ensures.counts c.retain_edge.ensures.stay

pub returns-in-Ok-intern_or_keep-clause-changed : goal.returns-in-Ok-intern_or_keep-clause-changed
returns-in-Ok-intern_or_keep-clause-changed g c =
    subst (IsChanged g.M.Mix.mixed c.args.context.now c.intern_or_keep.new.self) (sym (c.log_kept.ensures.step ∙ ap (λ (steps : List Step). kept_step c.in-Ok-intern_or_keep.kept ∷ steps) (c.reserve-2.ensures.same ∙ c.push-2.ensures ∙ ap (λ (steps : List Step). Keys (Replaced (Some (ToRow c.args.keys)) (Some (ToRow c.args.others))) ∷ steps) (c.reserve.ensures.same ∙ c.push.ensures ∙ ap (λ (steps : List Step). Pairs (Opened c.in-Ok.place c.in-Ok.node) ∷ steps) c.requires.empty))))
    (third_changed g.M.Mix.mixed c.args.context.now c.is_kept.ensures c.args.keys c.args.others c.args.row c.args.other_pairs c.requires.can c.open.new.self c.in-Ok.place c.in-Ok.node (c.in-Ok.ensures.number ∙ sym (same_row c.args.row c.of_edge.result c.of_edge.ensures)) c.in-Ok.ensures.opened
    c.retain_edge.new.self c.retain_edge.ensures.moved c.retain_edge.ensures.counts c.retain_edge.ensures.stay
    c.intern_or_keep.new.self c.in-Ok-intern_or_keep.kept c.in-Ok-intern_or_keep.ensures.kept)

pub returns-in-Ok-intern_or_keep-clause-held : goal.returns-in-Ok-intern_or_keep-clause-held
returns-in-Ok-intern_or_keep-clause-held g c =
    subst (λ m. keeps c.log_kept.new.log.steps 2 m + 1 ≤ holds_of c.intern_or_keep.new.self 2 m) (sym c.log_kept.ensures.row)
    (subst (λ steps. keeps steps 2 (kept_row c.in-Ok-intern_or_keep.kept) + 1 ≤ holds_of c.intern_or_keep.new.self 2 (kept_row c.in-Ok-intern_or_keep.kept)) (sym (c.log_kept.ensures.step ∙ ap (λ (steps : List Step). kept_step c.in-Ok-intern_or_keep.kept ∷ steps) (c.reserve-2.ensures.same ∙ c.push-2.ensures ∙ ap (λ (steps : List Step). Keys (Replaced (Some (ToRow c.args.keys)) (Some (ToRow c.args.others))) ∷ steps) (c.reserve.ensures.same ∙ c.push.ensures ∙ ap (λ (steps : List Step). Pairs (Opened c.in-Ok.place c.in-Ok.node) ∷ steps) c.requires.empty))))
    (third_held g.M.Mix.mixed c.args.context.now c.is_kept.ensures c.args.keys c.args.others c.args.row c.args.other_pairs c.requires.can c.open.new.self c.in-Ok.place c.in-Ok.node (c.in-Ok.ensures.number ∙ sym (same_row c.args.row c.of_edge.result c.of_edge.ensures)) c.in-Ok.ensures.opened
    c.retain_edge.new.self c.retain_edge.ensures.moved c.retain_edge.ensures.counts c.retain_edge.ensures.stay
    c.intern_or_keep.new.self c.in-Ok-intern_or_keep.kept c.in-Ok-intern_or_keep.ensures.kept))

pub returns-clause-changed : goal.returns-clause-changed
returns-clause-changed g c =
    subst (λ w. IsChanged g.M.Mix.mixed c.args.context.now w c.reserve-2.new.self.steps) (sym c.in-Err-intern_or_keep.ensures.same)
    (subst (IsChanged g.M.Mix.mixed c.args.context.now c.retain_edge.new.self) (sym (c.reserve-2.ensures.same ∙ c.push-2.ensures ∙ ap (λ (steps : List Step). Keys (Replaced (Some (ToRow c.args.keys)) (Some (ToRow c.args.others))) ∷ steps) (c.reserve.ensures.same ∙ c.push.ensures ∙ ap (λ (steps : List Step). Pairs (Opened c.in-Ok.place c.in-Ok.node) ∷ steps) c.requires.empty)))
    (second_changed g.M.Mix.mixed c.args.context.now c.is_kept.ensures c.args.keys c.args.others c.args.row c.args.other_pairs c.requires.can c.open.new.self c.in-Ok.place c.in-Ok.node (c.in-Ok.ensures.number ∙ sym (same_row c.args.row c.of_edge.result c.of_edge.ensures)) c.in-Ok.ensures.opened
    c.retain_edge.new.self c.retain_edge.ensures.moved c.retain_edge.ensures.counts c.retain_edge.ensures.stay))
