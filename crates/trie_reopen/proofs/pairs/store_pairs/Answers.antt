use Rattle.std.proofs.Common.{◌∙◌, ◌∷◌, ap, subst, arith, None, Some}
use Rattle.change_log.specs.declared.step.RowStep.TheVariants.{Made, Found}
use Rattle.change_log.specs.declared.step.Step.TheVariants.{Pairs}
use Rattle.trie_context.specs.Interned.{IsInterned, kept_row, came_back}
use Rattle.trie_reopen.proofs.Stored.{edge_one, pairs_stand, pairs_made, pairs_found}
use Rattle.trie_reopen.proofs.pairs.store_pairs.Goals as goal

pub returns-in-Ok-Made-clause-stands : goal.returns-in-Ok-Made-clause-stands
returns-in-Ok-Made-clause-stands g c =
    pairs_stand g.M.Mix.mixed c.args.context.now c.intern_or_keep.new.self c.is_kept.ensures c.args.log.now.steps c.args.node c.in-Ok-Made.held None (subst (λ f. IsInterned g.M.Mix.mixed c.args.context.now c.intern_or_keep.new.self 2 c.args.node (kept_row f) (came_back f)) c.in-Ok-Made.field-0-is c.in-Ok-Made.ensures.kept) c.requires.held c.requires.filled c.into_edge.result c.into_edge.ensures

pub returns-in-Ok-Made-clause-logged : goal.returns-in-Ok-Made-clause-logged
returns-in-Ok-Made-clause-logged g c =
    pairs_made g.M.Mix.mixed c.args.context.now c.intern_or_keep.new.self c.is_kept.ensures c.args.log.now.steps c.args.node c.in-Ok-Made.held c.push.new.self.steps c.into_edge.result c.into_edge.ensures (subst (λ f. IsInterned g.M.Mix.mixed c.args.context.now c.intern_or_keep.new.self 2 c.args.node (kept_row f) (came_back f)) c.in-Ok-Made.field-0-is c.in-Ok-Made.ensures.kept)
    (c.push.ensures ∙ ap (λ r. Pairs (Made r) ∷ c.reserve.new.self.steps) c.row.ensures ∙ ap (λ l. Pairs (Made c.in-Ok-Made.held) ∷ l) c.in_ok-reserve.ensures.same)

pub returns-in-Ok-Found-clause-stands : goal.returns-in-Ok-Found-clause-stands
returns-in-Ok-Found-clause-stands g c =
    pairs_stand g.M.Mix.mixed c.args.context.now c.intern_or_keep.new.self c.is_kept.ensures c.args.log.now.steps c.args.node c.in-Ok-Found.held (Some c.in-Ok-Found.same) (subst (λ f. IsInterned g.M.Mix.mixed c.args.context.now c.intern_or_keep.new.self 2 c.args.node (kept_row f) (came_back f)) c.in-Ok-Found.field-0-is c.in-Ok-Found.ensures.kept) c.requires.held c.requires.filled c.into_edge-in-Ok-Found.result c.into_edge-in-Ok-Found.ensures

pub returns-in-Ok-Found-clause-logged : goal.returns-in-Ok-Found-clause-logged
returns-in-Ok-Found-clause-logged g c =
    pairs_found g.M.Mix.mixed c.args.context.now c.intern_or_keep.new.self c.is_kept.ensures c.args.log.now.steps c.args.node c.in-Ok-Found.held c.push-in-Ok-Found.new.self.steps c.into_edge-in-Ok-Found.result c.into_edge-in-Ok-Found.ensures c.in-Ok-Found.same (subst (λ f. IsInterned g.M.Mix.mixed c.args.context.now c.intern_or_keep.new.self 2 c.args.node (kept_row f) (came_back f)) c.in-Ok-Found.field-0-is c.in-Ok-Found.ensures.kept)
    (c.push-in-Ok-Found.ensures ∙ ap (λ r. Pairs (Found r c.in-Ok-Found.same) ∷ c.reserve.new.self.steps) c.row-in-Ok-Found.ensures ∙ ap (λ l. Pairs (Found c.in-Ok-Found.held c.in-Ok-Found.same) ∷ l) c.in_ok-reserve.ensures.same)

pub returns-in-Ok-Made-clause-risen : goal.returns-in-Ok-Made-clause-risen
returns-in-Ok-Made-clause-risen g c d r deep =
    let interned = subst (λ f. IsInterned g.M.Mix.mixed c.args.context.now c.intern_or_keep.new.self 2 c.args.node (kept_row f) (came_back f)) c.in-Ok-Made.field-0-is c.in-Ok-Made.ensures.kept in
    omega (arith, interned.moved.holds d r, edge_one 2 c.in-Ok-Made.held c.into_edge.result c.into_edge.ensures d r)

pub returns-in-Ok-Found-clause-risen : goal.returns-in-Ok-Found-clause-risen
returns-in-Ok-Found-clause-risen g c d r deep =
    let interned = subst (λ f. IsInterned g.M.Mix.mixed c.args.context.now c.intern_or_keep.new.self 2 c.args.node (kept_row f) (came_back f)) c.in-Ok-Found.field-0-is c.in-Ok-Found.ensures.kept in
    omega (arith, interned.moved.holds d r, edge_one 2 c.in-Ok-Found.held c.into_edge-in-Ok-Found.result c.into_edge-in-Ok-Found.ensures d r)
