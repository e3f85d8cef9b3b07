use Rattle.std.proofs.Common.{◌∙◌, sym}
use Rattle.std.proofs.lemmas.Bool.{true≢false}
use Rattle.edge_map.proofs.SameLemmas.{turned_same, parted}
use Rattle.edge_map.proofs.walk.same_rests.Goals as goal

pub returns-then-not-same : goal.returns-then-not-same
returns-then-not-same c = (
  (λ t. absurd (true≢false (sym t))),
  (λ e. sym c.if-not-same.true ∙ c.same.ensures.1 (parted c.args.chunks c.args.others c.loop-chunk.left c.loop-chunk.right _ _ c.in-Some-Some.more c.in-Some-Some.rest c.loop-chunk.invariant c.in-Some-Some.ensures.some c.in-Some-Some.ensures'.some (sym c.len.ensures.len ∙ c.if-len.false ∙ c.len-in-Some-Some.ensures.len) e)),
)

pub loop-chunk-preserved : goal.loop-chunk-preserved
loop-chunk-preserved c =
    turned_same c.args.chunks c.args.others c.loop-chunk.left c.loop-chunk.right _ _ c.in-Some-Some.more c.in-Some-Some.rest c.loop-chunk.invariant c.in-Some-Some.ensures.some c.in-Some-Some.ensures'.some (c.same.ensures.0 c.if-not-same.false)
