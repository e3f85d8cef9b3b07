use Rattle.std.proofs.Common.{sym, subst}
use Rattle.trie_context.specs.Kept.{AreKept}
use Rattle.graph_view.proofs.tables.TablesView.of.Goals as goal

pub invariant_of-result : goal.invariant_of-result
invariant_of-result g c = record {
  known = ∣ record {
    mixed = g.M.Mix.mixed;
    kept = subst (AreKept g.M.Mix.mixed) (sym c.tables.ensures.same) c.tables.ensures.kept;
    one = c.is_one_to_one.ensures;
  } ∣₁;
}
