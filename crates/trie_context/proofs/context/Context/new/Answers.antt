use Rattle.std.proofs.Common.{subst, sym}
use Rattle.trie_context.specs.Kept.{AreKept}
use Rattle.trie_context.specs.RowLaws.{none_kept}
use Rattle.trie_context.proofs.context.Context.new.Goals as goal

pub invariant_of-result : goal.invariant_of-result
invariant_of-result g c = subst (AreKept g.M.Mix.mixed) (sym c.new.ensures) (none_kept g.M.Mix.mixed)
