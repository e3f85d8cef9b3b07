use Rattle.std.proofs.Common.{rules, ℕ, ◌≡◌}
use Rattle.std.proofs.lemmas.Result.{IfOk-weaker}
use Rattle.std.specs.Ordering.{nat_cmp}
use Rattle.hypertrie_model.specs.Slices.{slice}
use Rattle.hypertrie_model.specs.Changes.{after}
use Rattle.trie_depth.specs.Tuples.{trip_tuple}
use Rattle.trie_change.specs.Batches.{set_of_entries}
use Rattle.trie_change.specs.Changes.{grows}
use Rattle.trie_change.specs.Rooms.{AreChanged, AreSlicesAt, row_set_at}
use Rattle.trie_change.specs.PairLaws.{changes_of, slices_after}
use Rattle.trie_change.specs.PairLaws.{small_after}
use Rattle.trie_change.specs.Sums.{first_set_len}
use Rattle.trie_change.proofs.RetainLemmas.{rows_retained}
use Rattle.trie_change.proofs.triples.change_triple_position.Goals as goal

pub change_triple_map-requires-clause-entries : goal.change_triple_map-requires-clause-entries
change_triple_map-requires-clause-entries g c =
    record {
      fits = search rules;
      order = search rules;
      change = let turned : (k : ℕ) → slice nat_cmp (set_of_entries trip_tuple c.in_ok-triples.triples.items) 0 k ≡ slice nat_cmp (set_of_entries trip_tuple c.args.batch.now) c.args.position k = c.in_ok-triples.ensures.slices in
          changes_of c.args.change c.args.context.now 2 (row_set_at c.args.context.now c.args.old) (set_of_entries trip_tuple c.args.batch.now) c.args.position c.in_ok-edges.edges (set_of_entries trip_tuple c.in_ok-triples.triples.items) c.requires.batch.change c.in_ok-edges.ensures turned;
    }

pub change_triple_map-requires-clause-size : goal.change_triple_map-requires-clause-size
change_triple_map-requires-clause-size g c =
    let turned : (k : ℕ) → slice nat_cmp (set_of_entries trip_tuple c.in_ok-triples.triples.items) 0 k ≡ slice nat_cmp (set_of_entries trip_tuple c.args.batch.now) c.args.position k = c.in_ok-triples.ensures.slices in
    small_after c.args.change c.args.context.now 2 (row_set_at c.args.context.now c.args.old) (set_of_entries trip_tuple c.args.batch.now) c.args.position c.in_ok-edges.edges (set_of_entries trip_tuple c.in_ok-triples.triples.items) c.in_ok-edges.ensures turned c.requires.batch.size

pub returns-clause-slices : goal.returns-clause-slices
returns-clause-slices g c =
    let turned : (k : ℕ) → slice nat_cmp (set_of_entries trip_tuple c.in_ok-triples.triples.items) 0 k ≡ slice nat_cmp (set_of_entries trip_tuple c.args.batch.now) c.args.position k = c.in_ok-triples.ensures.slices in
    IfOk-weaker c.change_triple_map.result
    (AreChanged c.args.change c.args.context.now c.change_triple_map.new.context 2 c.in_ok-edges.edges (set_of_entries trip_tuple c.in_ok-triples.triples.items))
    (AreSlicesAt c.change_triple_map.new.context 2 (after (grows c.args.change) (row_set_at c.args.context.now c.args.old) (set_of_entries trip_tuple c.args.batch.now)) c.args.position)
    (slices_after c.args.change c.args.context.now 2 (row_set_at c.args.context.now c.args.old) (set_of_entries trip_tuple c.args.batch.now) c.args.position c.in_ok-edges.edges (set_of_entries trip_tuple c.in_ok-triples.triples.items) c.change_triple_map.new.context c.in_ok-edges.ensures turned)
    c.change_triple_map.ensures.changed

pub returns-clause-retained : goal.returns-clause-retained
returns-clause-retained g c =
    rows_retained c.change_triple_map.new.context 2 c.args.change (row_set_at c.args.context.now c.args.old) (set_of_entries trip_tuple c.args.batch.now) c.requires.batch.change _ c.requires.batch.once c.args.position
    c.change_triple_map.result _ _ _ _ (first_set_len c.args.context.now 2 (row_set_at c.args.context.now c.args.old) c.args.position c.in_ok-edges.edges c.in_ok-edges.ensures) c.in_ok-triples.ensures.len
    c.change_triple_map.ensures.retained c.change_triple_map.ensures.few (returns-clause-slices g c)
