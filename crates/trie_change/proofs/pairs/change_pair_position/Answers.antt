use Rattle.std.proofs.Common.{rules, ap, ◌∙◌}
use Rattle.std.specs.Ordering.{nat_cmp}
use Rattle.hypertrie_model.specs.Slices.{slice}
use Rattle.hypertrie_model.specs.Changes.{after}
use Rattle.trie_depth.specs.Tuples.{pair_tuple}
use Rattle.trie_context.specs.FitEdges.{set_at}
use Rattle.trie_change.specs.Batches.{set_of_entries, trip_rest}
use Rattle.trie_change.specs.BatchLaws.{order_once}
use Rattle.trie_change.specs.Changes.{grows}
use Rattle.trie_change.specs.Rooms.{AreSlicesAt, AreChanged}
use Rattle.trie_change.specs.PairLaws.{if_ok, changes_of, slices_after}
use Rattle.trie_change.proofs.RetainLemmas.{keys_retained}
use Rattle.trie_change.proofs.pairs.change_pair_position.Goals as goal

pub pairs_by_key-requires-clause-once : goal.pairs_by_key-requires-clause-once
pairs_by_key-requires-clause-once g c = order_once trip_rest c.args.run.now c.requires.run.order

pub change_pair_map-requires-clause-entries : goal.change_pair_map-requires-clause-entries
change_pair_map-requires-clause-entries g c =
    record {
      fits = search rules;
      order = search rules;
      change = changes_of c.args.change c.args.context.now 1 (set_at c.args.context.now 2 c.args.old) (set_of_entries trip_rest c.args.run.now) c.args.position c.in_ok-edges.edges (set_of_entries pair_tuple c.deref.result.now)
          c.requires.run.change c.in_ok-edges.ensures
          (λ k. ap (λ ps. slice nat_cmp (set_of_entries pair_tuple ps) 0 k) c.deref.ensures.value ∙ c.in_ok-pairs.ensures.slices k);
    }

pub returns-clause-slices : goal.returns-clause-slices
returns-clause-slices g c =
    if_ok (AreChanged c.args.change c.args.context.now c.change_pair_map.new.context 1 c.in_ok-edges.edges (set_of_entries pair_tuple c.deref.result.now))
    (AreSlicesAt c.change_pair_map.new.context 1 (after (grows c.args.change) (set_at c.args.context.now 2 c.args.old) (set_of_entries trip_rest c.args.run.now)) c.args.position)
    c.change_pair_map.result
    (λ m changed.
    slices_after c.args.change c.args.context.now 1 (set_at c.args.context.now 2 c.args.old) (set_of_entries trip_rest c.args.run.now) c.args.position c.in_ok-edges.edges (set_of_entries pair_tuple c.deref.result.now) c.change_pair_map.new.context
    c.in_ok-edges.ensures
    (λ k. ap (λ ps. slice nat_cmp (set_of_entries pair_tuple ps) 0 k) c.deref.ensures.value ∙ c.in_ok-pairs.ensures.slices k) m changed)
    c.change_pair_map.ensures.changed

pub returns-clause-retained : goal.returns-clause-retained
returns-clause-retained g c =
    keys_retained c.change_pair_map.new.context 1 c.args.change (set_at c.args.context.now 2 c.args.old) (set_of_entries trip_rest c.args.run.now) c.requires.run.change _ (order_once trip_rest c.args.run.now c.requires.run.order) c.args.position
    c.change_pair_map.result _ _ c.change_pair_map.ensures.retained c.change_pair_map.ensures.unretained (returns-clause-slices g c)
