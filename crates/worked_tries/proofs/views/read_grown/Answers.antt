use Rattle.std.proofs.Common.{sym, subst, arith}
use Rattle.trie_context.specs.Kept.{AreKept}
use Rattle.trie_view.specs.Places.{IsRootThere}
use Rattle.trie_view.specs.RootLaws.{held_root_there}
use Rattle.worked_tries.proofs.Grown.{may_grow_empty}
use Rattle.worked_tries.proofs.views.read_grown.Goals as goal

pub grow-requires : goal.grow-requires
grow-requires g c = may_grow_empty c.args.context.now c.args.root.now c.args.graph.now c.requires.tables c.requires.root c.requires.once (omega (arith, c.requires.few))

pub of-requires-clause-kept : goal.of-requires-clause-kept
of-requires-clause-kept g c = ∣ (g.M.Mix.mixed, subst (AreKept g.M.Mix.mixed) (sym c.tables.ensures.same) c.tables.ensures.kept) ∣₁

pub of-requires-clause-there : goal.of-requires-clause-there
of-requires-clause-there g c = subst (λ t. IsRootThere t c.grow.new.root) (sym c.tables.ensures.same) (held_root_there c.grow.new.context c.grow.new.root c.grow.ensures.held)
