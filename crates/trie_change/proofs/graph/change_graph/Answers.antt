use Rattle.std.proofs.Common.{◌∙◌, ◌<◌, ◌^◌, ap, sym, arith, subst}
use Rattle.std.specs.FinSet as set
use Rattle.hypertrie_model.specs.Changes.{after, IsChange}
use Rattle.trie_depth.specs.Tuples.{trip_tuple}
use Rattle.trie_context.specs.Roots.{root_set, IsHeld}
use Rattle.trie_context.specs.MoveLaws.{held_there}
use Rattle.trie_context.specs.declared.root.Root.TheVariants.{Many}
use Rattle.trie_change.specs.Batches.{set_of_entries}
use Rattle.trie_change.specs.Changes.{grows}
use Rattle.trie_change.proofs.RootLemmas.{len-after_le}
use Rattle.std.specs.Cmp.{nat_cmp_total as total}
use Rattle.std.specs.FinMap.{nat_cmp-IsAntisymmetric as exact}
use Rattle.hypertrie_model.specs.SetLaws.{len-single}
use Rattle.trie_change.proofs.graph.change_graph.Goals as goal

pub change_root-requires-clause-batch : goal.change_root-requires-clause-batch
change_root-requires-clause-batch g c =
    let S = set_of_entries trip_tuple c.args.batch.now in
    record {
      there = tt;
      once = c.requires.once;
      change = subst (λ r. IsChange (grows c.args.change) (root_set c.args.context.now r) S) c.in-Empty.is c.requires.change;
      size = subst (λ r. set.len (after (grows c.args.change) (root_set c.args.context.now r) S) < 2 ^ 64) c.in-Empty.is
          (omega (arith, c.requires.size, c.requires.batch, c.requires.once, len-after_le (grows c.args.change) (root_set c.args.context.now c.args.root.now) S c.requires.change));
    }

pub change_root-requires-in-Many-clause-batch : goal.change_root-requires-in-Many-clause-batch
change_root-requires-in-Many-clause-batch g c =
    let S = set_of_entries trip_tuple c.args.batch.now in
    let is = c.in-Many.is ∙ ap Many (sym c.row-row.ensures) in
    record {
      there = held_there c.args.context.now 3 c.row-row.result (subst (IsHeld c.args.context.now) is c.requires.held);
      once = c.requires.once;
      change = subst (λ r. IsChange (grows c.args.change) (root_set c.args.context.now r) S) is c.requires.change;
      size = subst (λ r. set.len (after (grows c.args.change) (root_set c.args.context.now r) S) < 2 ^ 64) is
          (omega (arith, c.requires.size, c.requires.batch, c.requires.once, len-after_le (grows c.args.change) (root_set c.args.context.now c.args.root.now) S c.requires.change));
    }

pub returns-in-Empty-clause-retained : goal.returns-in-Empty-clause-retained
returns-in-Empty-clause-retained g c = omega (arith, c.change_root.ensures.retained, ap (λ r. set.len (root_set c.args.context.now r)) c.in-Empty.is)

pub returns-in-One-clause-retained : goal.returns-in-One-clause-retained
returns-in-One-clause-retained g c = omega (arith, c.change_one.ensures.retained, ap (λ r. set.len (root_set c.args.context.now r)) c.in-One.is, len-single total exact (trip_tuple c.in-One.triple))

pub returns-in-Many-clause-retained : goal.returns-in-Many-clause-retained
returns-in-Many-clause-retained g c = omega (arith, c.change_root-in-Many.ensures.retained, ap (λ r. set.len (root_set c.args.context.now r)) (c.in-Many.is ∙ ap Many (sym c.row-row.ensures)))
