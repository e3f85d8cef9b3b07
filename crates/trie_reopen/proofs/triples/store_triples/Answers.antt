use Rattle.std.proofs.Common.{◌∙◌, ◌∷◌, ap, subst, None, Some}
use Rattle.change_log.specs.declared.step.RowStep.TheVariants.{Made, Found}
use Rattle.change_log.specs.declared.step.Step.TheVariants.{Triples}
use Rattle.trie_context.specs.Interned.{IsInterned, kept_row, came_back}
use Rattle.trie_reopen.proofs.Stored.{triples_stand, triples_made, triples_found}
use Rattle.trie_reopen.proofs.triples.store_triples.Goals as goal

pub returns-in-Ok-Made-clause-set : goal.returns-in-Ok-Made-clause-set
returns-in-Ok-Made-clause-set g c =
    triples_stand g.M.Mix.mixed c.args.context.now c.intern_or_keep.new.self c.is_kept.ensures c.args.log.now.steps c.args.node c.in-Ok-Made.held None (subst (λ f. IsInterned g.M.Mix.mixed c.args.context.now c.intern_or_keep.new.self 3 c.args.node (kept_row f) (came_back f)) c.in-Ok-Made.field-0-is c.in-Ok-Made.ensures.kept) c.requires.held

pub returns-in-Ok-Made-clause-logged : goal.returns-in-Ok-Made-clause-logged
returns-in-Ok-Made-clause-logged g c =
    triples_made g.M.Mix.mixed c.args.context.now c.intern_or_keep.new.self c.is_kept.ensures c.args.log.now.steps c.args.node c.in-Ok-Made.held c.push.new.self.steps (subst (λ f. IsInterned g.M.Mix.mixed c.args.context.now c.intern_or_keep.new.self 3 c.args.node (kept_row f) (came_back f)) c.in-Ok-Made.field-0-is c.in-Ok-Made.ensures.kept)
    (c.push.ensures ∙ ap (λ r. Triples (Made r) ∷ c.reserve.new.self.steps) c.row.ensures ∙ ap (λ l. Triples (Made c.in-Ok-Made.held) ∷ l) c.in_ok-reserve.ensures.same)

pub returns-in-Ok-Found-clause-set : goal.returns-in-Ok-Found-clause-set
returns-in-Ok-Found-clause-set g c =
    triples_stand g.M.Mix.mixed c.args.context.now c.intern_or_keep.new.self c.is_kept.ensures c.args.log.now.steps c.args.node c.in-Ok-Found.held (Some c.in-Ok-Found.same) (subst (λ f. IsInterned g.M.Mix.mixed c.args.context.now c.intern_or_keep.new.self 3 c.args.node (kept_row f) (came_back f)) c.in-Ok-Found.field-0-is c.in-Ok-Found.ensures.kept) c.requires.held

pub returns-in-Ok-Found-clause-logged : goal.returns-in-Ok-Found-clause-logged
returns-in-Ok-Found-clause-logged g c =
    triples_found g.M.Mix.mixed c.args.context.now c.intern_or_keep.new.self c.is_kept.ensures c.args.log.now.steps c.args.node c.in-Ok-Found.held c.push-in-Ok-Found.new.self.steps c.in-Ok-Found.same (subst (λ f. IsInterned g.M.Mix.mixed c.args.context.now c.intern_or_keep.new.self 3 c.args.node (kept_row f) (came_back f)) c.in-Ok-Found.field-0-is c.in-Ok-Found.ensures.kept)
    (c.push-in-Ok-Found.ensures ∙ ap (λ r. Triples (Found r c.in-Ok-Found.same) ∷ c.reserve.new.self.steps) c.row-in-Ok-Found.ensures ∙ ap (λ l. Triples (Found c.in-Ok-Found.held c.in-Ok-Found.same) ∷ l) c.in_ok-reserve.ensures.same)
