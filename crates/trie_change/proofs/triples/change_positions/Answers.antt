use Rattle.std.proofs.Common.{ℕ, ◌+◌, ◌<◌, ◌^◌, ap, sym, subst, refl, arith}
use Rattle.std.specs.FinSet as set
use Rattle.hypertrie_model.specs.Changes.{after, IsChange}
use Rattle.trie_depth.specs.Tuples.{trip_tuple}
use Rattle.trie_node.specs.Sets.{edges_in}
use Rattle.trie_context.specs.Holds.{at_depth, nothing}
use Rattle.trie_context.specs.MoveLaws.{at_sum, rows_stay_on, moved_as}
use Rattle.trie_change.specs.Batches.{set_of_entries}
use Rattle.trie_change.specs.Changes.{grows}
use Rattle.trie_change.specs.HandLaws.{slices_stay}
use Rattle.trie_change.specs.Rooms.{AreSlicesAt, row_set_at}
use Rattle.trie_change.proofs.PositionLemmas.{row_set_stays, row_stays_there, all_given_back, still_held, left_held, both_moved, both_given}
use Rattle.trie_change.proofs.triples.change_positions.Goals as goal

pub change_triple_position-requires-2-clause-batch : goal.change_triple_position-requires-2-clause-batch
change_triple_position-requires-2-clause-batch g c =
    record {
      there = row_stays_there c.args.context.now c.change_triple_position.new.context c.in_ok-first.ensures.held.stay c.args.old c.requires.batch.there;
      once = c.requires.batch.once;
      change = subst (λ S. IsChange (grows c.args.change) S (set_of_entries trip_tuple c.args.batch.now)) (sym (row_set_stays g.M.Mix.mixed c.args.context.now c.change_triple_position.new.context c.is_kept.ensures c.in_ok-first.ensures.held.stay c.args.old c.requires.batch.there)) c.requires.batch.change;
      size = subst (λ S. set.len (after (grows c.args.change) S (set_of_entries trip_tuple c.args.batch.now)) < 2 ^ 64) (sym (row_set_stays g.M.Mix.mixed c.args.context.now c.change_triple_position.new.context c.is_kept.ensures c.in_ok-first.ensures.held.stay c.args.old c.requires.batch.there)) c.requires.batch.size;
    }

pub release_map-requires : goal.release_map-requires
release_map-requires g c = record { held = still_held (edges_in c.in_ok-first.first) c.in_ok-first.ensures.held.moved c.in-Err.ensures.kept }

pub returns-in-Err-clause-kept : goal.returns-in-Err-clause-kept
returns-in-Err-clause-kept g c = all_given_back c.is_kept.ensures c.in_ok-first.ensures.held.moved c.in_ok-first.ensures.held.stay c.in-Err.ensures.kept c.release_map.ensures.moved c.release_map.ensures.came (λ d r. refl)

pub change_triple_position-requires-3-clause-batch : goal.change_triple_position-requires-3-clause-batch
change_triple_position-requires-3-clause-batch g c =
    record {
      there = row_stays_there c.args.context.now c.change_triple_position-2.new.context (rows_stay_on c.args.context.now c.change_triple_position.new.context c.change_triple_position-2.new.context c.in_ok-first.ensures.held.stay c.in-Ok.ensures.held.stay) c.args.old c.requires.batch.there;
      once = c.requires.batch.once;
      change = subst (λ S. IsChange (grows c.args.change) S (set_of_entries trip_tuple c.args.batch.now)) (sym (row_set_stays g.M.Mix.mixed c.args.context.now c.change_triple_position-2.new.context c.is_kept.ensures (rows_stay_on c.args.context.now c.change_triple_position.new.context c.change_triple_position-2.new.context c.in_ok-first.ensures.held.stay c.in-Ok.ensures.held.stay) c.args.old c.requires.batch.there)) c.requires.batch.change;
      size = subst (λ S. set.len (after (grows c.args.change) S (set_of_entries trip_tuple c.args.batch.now)) < 2 ^ 64) (sym (row_set_stays g.M.Mix.mixed c.args.context.now c.change_triple_position-2.new.context c.is_kept.ensures (rows_stay_on c.args.context.now c.change_triple_position.new.context c.change_triple_position-2.new.context c.in_ok-first.ensures.held.stay c.in-Ok.ensures.held.stay) c.args.old c.requires.batch.there)) c.requires.batch.size;
    }

pub release_map-requires-in-Err-change_triple_position :
    goal.release_map-requires-in-Err-change_triple_position
release_map-requires-in-Err-change_triple_position g c =
    let e : ℕ → ℕ → ℕ = at_depth 2 (edges_in c.in_ok-first.first) in
    let f : ℕ → ℕ → ℕ = at_depth 2 (edges_in c.in-Ok.second) in
    let both = moved_as (both_moved e f c.in_ok-first.ensures.held.moved c.in-Ok.ensures.held.moved) (at_depth 2 (λ r. edges_in c.in_ok-first.first r + edges_in c.in-Ok.second r)) nothing (λ d r. omega (arith, at_sum 2 (λ r. edges_in c.in_ok-first.first r + edges_in c.in-Ok.second r) (edges_in c.in_ok-first.first) (edges_in c.in-Ok.second) (λ r. refl) d r)) in
    record { held = λ r. omega (arith, still_held (λ r. edges_in c.in_ok-first.first r + edges_in c.in-Ok.second r) both c.in-Err-change_triple_position.ensures.kept r) }

pub release_map-requires-in-Err-change_triple_position-2 :
    goal.release_map-requires-in-Err-change_triple_position-2
release_map-requires-in-Err-change_triple_position-2 g c =
    let e : ℕ → ℕ → ℕ = at_depth 2 (edges_in c.in_ok-first.first) in
    let f : ℕ → ℕ → ℕ = at_depth 2 (edges_in c.in-Ok.second) in
    let both = moved_as (both_moved e f c.in_ok-first.ensures.held.moved c.in-Ok.ensures.held.moved) (at_depth 2 (λ r. edges_in c.in_ok-first.first r + edges_in c.in-Ok.second r)) nothing (λ d r. omega (arith, at_sum 2 (λ r. edges_in c.in_ok-first.first r + edges_in c.in-Ok.second r) (edges_in c.in_ok-first.first) (edges_in c.in-Ok.second) (λ r. refl) d r)) in
    record {
      held = left_held (edges_in c.in_ok-first.first) (edges_in c.in-Ok.second) c.release_map-in-Err-change_triple_position.ensures.moved
          (still_held (λ r. edges_in c.in_ok-first.first r + edges_in c.in-Ok.second r) both c.in-Err-change_triple_position.ensures.kept);
    }

pub returns-in-Ok-change_triple_position-clause-first :
    goal.returns-in-Ok-change_triple_position-clause-first
returns-in-Ok-change_triple_position-clause-first g c =
    slices_stay g.M.Mix.mixed c.change_triple_position.new.context c.change_triple_position-3.new.context c.in_ok-first.ensures.held.moved.kept
    (rows_stay_on c.change_triple_position.new.context c.change_triple_position-2.new.context c.change_triple_position-3.new.context c.in-Ok.ensures.held.stay c.in-Ok-change_triple_position.ensures.held.stay)
    2 (after (grows c.args.change) (row_set_at c.args.context.now c.args.old) (set_of_entries trip_tuple c.args.batch.now)) 0 c.in_ok-first.first c.in_ok-first.ensures.slices

pub returns-in-Ok-change_triple_position-clause-second :
    goal.returns-in-Ok-change_triple_position-clause-second
returns-in-Ok-change_triple_position-clause-second g c =
    let same = row_set_stays g.M.Mix.mixed c.args.context.now c.change_triple_position.new.context c.is_kept.ensures c.in_ok-first.ensures.held.stay c.args.old c.requires.batch.there in
    slices_stay g.M.Mix.mixed c.change_triple_position-2.new.context c.change_triple_position-3.new.context c.in-Ok.ensures.held.moved.kept c.in-Ok-change_triple_position.ensures.held.stay
    2 (after (grows c.args.change) (row_set_at c.args.context.now c.args.old) (set_of_entries trip_tuple c.args.batch.now)) 1 c.in-Ok.second
    (subst (λ S. AreSlicesAt c.change_triple_position-2.new.context 2 (after (grows c.args.change) S (set_of_entries trip_tuple c.args.batch.now)) 1 c.in-Ok.second) same c.in-Ok.ensures.slices)

pub returns-in-Ok-change_triple_position-clause-third :
    goal.returns-in-Ok-change_triple_position-clause-third
returns-in-Ok-change_triple_position-clause-third g c =
    let stay = rows_stay_on c.args.context.now c.change_triple_position.new.context c.change_triple_position-2.new.context c.in_ok-first.ensures.held.stay c.in-Ok.ensures.held.stay in
    let same = row_set_stays g.M.Mix.mixed c.args.context.now c.change_triple_position-2.new.context c.is_kept.ensures stay c.args.old c.requires.batch.there in
    subst (λ S. AreSlicesAt c.change_triple_position-3.new.context 2 (after (grows c.args.change) S (set_of_entries trip_tuple c.args.batch.now)) 2 c.in-Ok-change_triple_position.third) same c.in-Ok-change_triple_position.ensures.slices

pub returns-in-Err-change_triple_position-clause-kept :
    goal.returns-in-Err-change_triple_position-clause-kept
returns-in-Err-change_triple_position-clause-kept g c =
    let e : ℕ → ℕ → ℕ = at_depth 2 (edges_in c.in_ok-first.first) in
    let f : ℕ → ℕ → ℕ = at_depth 2 (edges_in c.in-Ok.second) in
    all_given_back c.is_kept.ensures (both_moved e f c.in_ok-first.ensures.held.moved c.in-Ok.ensures.held.moved)
    (rows_stay_on c.args.context.now c.change_triple_position.new.context c.change_triple_position-2.new.context c.in_ok-first.ensures.held.stay c.in-Ok.ensures.held.stay)
    c.in-Err-change_triple_position.ensures.kept
    (both_given e f c.release_map-in-Err-change_triple_position.ensures.moved c.release_map-in-Err-change_triple_position-2.ensures.moved)
    (rows_stay_on c.release_map-in-Err-change_triple_position-2.new.self c.release_map-in-Err-change_triple_position.new.self c.change_triple_position-3.new.context c.release_map-in-Err-change_triple_position-2.ensures.came c.release_map-in-Err-change_triple_position.ensures.came)
    (λ d r. refl)

pub returns-in-Err-clause-retained : goal.returns-in-Err-clause-retained
returns-in-Err-clause-retained g c =
    omega (arith, c.change_triple_position.ensures.retained, c.change_triple_position-2.ensures.retained, ap set.len (row_set_stays g.M.Mix.mixed c.args.context.now c.change_triple_position.new.context c.is_kept.ensures c.in_ok-first.ensures.held.stay c.args.old c.requires.batch.there))

pub returns-in-Ok-change_triple_position-clause-retained :
    goal.returns-in-Ok-change_triple_position-clause-retained
returns-in-Ok-change_triple_position-clause-retained g c =
    omega (
      arith,
      c.change_triple_position.ensures.retained,
      c.change_triple_position-2.ensures.retained,
      c.change_triple_position-3.ensures.retained,
      ap set.len (row_set_stays g.M.Mix.mixed c.args.context.now c.change_triple_position.new.context c.is_kept.ensures c.in_ok-first.ensures.held.stay c.args.old c.requires.batch.there),
      ap set.len (row_set_stays g.M.Mix.mixed c.args.context.now c.change_triple_position-2.new.context c.is_kept.ensures (rows_stay_on c.args.context.now c.change_triple_position.new.context c.change_triple_position-2.new.context c.in_ok-first.ensures.held.stay c.in-Ok.ensures.held.stay) c.args.old c.requires.batch.there),
    )

pub returns-in-Err-change_triple_position-clause-retained :
    goal.returns-in-Err-change_triple_position-clause-retained
returns-in-Err-change_triple_position-clause-retained g c =
    omega (
      arith,
      c.change_triple_position.ensures.retained,
      c.change_triple_position-2.ensures.retained,
      c.change_triple_position-3.ensures.retained,
      ap set.len (row_set_stays g.M.Mix.mixed c.args.context.now c.change_triple_position.new.context c.is_kept.ensures c.in_ok-first.ensures.held.stay c.args.old c.requires.batch.there),
      ap set.len (row_set_stays g.M.Mix.mixed c.args.context.now c.change_triple_position-2.new.context c.is_kept.ensures (rows_stay_on c.args.context.now c.change_triple_position.new.context c.change_triple_position-2.new.context c.in_ok-first.ensures.held.stay c.in-Ok.ensures.held.stay) c.args.old c.requires.batch.there),
    )
