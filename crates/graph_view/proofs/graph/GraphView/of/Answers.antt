use Rattle.std.proofs.Common.{sym, subst}
use Rattle.trie_context.specs.Roots.{root_set}
use Rattle.trie_view.specs.Places.{IsRootThere}
use Rattle.graph_image.specs.Images.{AreKnown}
use Rattle.graph_view.proofs.graph.GraphView.of.Goals as goal

pub invariant_of-result : goal.invariant_of-result
invariant_of-result g c = record {
  known = ∣ record {
    there = subst (λ t. IsRootThere t c.args.root.now) (sym c.of.ensures.tables) c.requires.there;
    known = subst (λ t. AreKnown c.of.result.dict.now (root_set t c.args.root.now)) (sym c.of.ensures.tables)
        (subst (λ terms. AreKnown terms (root_set c.args.context.now c.args.root.now)) (sym c.of.ensures.terms) c.requires.known);
  } ∣₁;
}
