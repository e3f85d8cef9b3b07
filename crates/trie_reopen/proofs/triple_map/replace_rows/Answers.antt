use Rattle.std.proofs.Common.{◌≡◌, ℕ, ◌+◌, ◌≤◌, ◌*◌, ◌^◌, ◌<◌, ◌≢◌, [], ◌∷◌, ◌++◌, List, length, take, drop, sym, ◌∙◌, ap, subst, arith, length-append, Some}
use Rattle.std.specs.FinSet as set
use Rattle.std.specs.List.{All, slice_index_or, slice_get}
use Rattle.edge_map.specs.Edges.{changed}
use Rattle.trie_depth.specs.declared.id.Id.{Id}
use Rattle.trie_depth.specs.declared.id.Trip.{Trip}
use Rattle.hypertrie_model.specs.Changes.{after, IsChange}
use Rattle.change_log.specs.Laws.{logged_none, grows_on}
use Rattle.change_log.specs.Log.{edge_hold}
use Rattle.change_log.specs.Logged.{IsLogged}
use Rattle.trie_context.specs.FitEdges.{set_at, StandsAt, option_leads}
use Rattle.trie_context.specs.Holds.{holds_of}
use Rattle.trie_change.specs.After.{map_hold, run_room}
use Rattle.trie_change.specs.Batches.{set_of_entries, trip_rest}
use Rattle.trie_change.specs.Changes.{grows}
use Rattle.trie_change.specs.Rooms.{FitsSome}
use Rattle.trie_change.specs.PairLaws.{on_err}
use Rattle.trie_change.specs.RunLaws.{IsCut, cut_at, first_there, begins, run_order, old_there, run_change, run_small}
use Rattle.trie_reopen.proofs.HeldMaps.{done_step, hand_step, edge_held}
use Rattle.trie_change.specs.Sums.{sum_at, sum_at-push}
use Rattle.trie_reopen.proofs.SharedLemmas.{cost_at, costs_within, costs_so_far, run_cost, run_shared, shared_on}
use Rattle.trie_reopen.proofs.triple_map.replace_rows.Goals as goal

pub loop-first-init : goal.loop-first-init
loop-first-init g c = (
  begins (λ (p : Trip). p.0.0) trip_rest c.args.change 2 c.args.context.now c.args.old.now c.args.triples.now c.requires.entries.fits c.args.changes.now.items c.requires.none,
  logged_none g.M.Mix.mixed c.args.context.now c.args.log.now.steps (map_hold 2 (changed c.args.old.now c.args.changes.now.items)) (map_hold 2 c.args.old.now) _ c.is_kept.ensures (λ d r. ap (λ cs. map_hold 2 (changed c.args.old.now cs) d r) c.requires.none),
  omega arith,
  (λ G H i turned shared. (shared, omega arith)),
)

abbrev key_of : Trip → ℕ
key_of p = p.0.0

abbrev Cut : List Trip → Id → List Trip → List Trip → Type 0
Cut rest k run others = IsCut key_of trip_rest rest k.0 run others

cut : (rest : List Trip) (n : ℕ) (run others : List Trip) (p : Trip) → rest ≡ run ++ others → run ≡ take n rest → others ≡ drop n rest → n ≤ length rest → All (λ (q : Trip). q.0.0 ≡ p.0.0) (take n rest)
    → ((q : Trip) → n < length rest → (slice_index_or rest n q).0.0 ≢ p.0.0) → Some p ≡ slice_get rest 0 → Cut rest p.0 run others
cut rest n run others p whole front back le all ends is = let here = first_there rest p is in cut_at key_of trip_rest rest p.0.0 n run others whole front back le all ends p here.0 (ap key_of here.1)

pub change_held_pairs-requires-clause-run : goal.change_held_pairs-requires-clause-run
change_held_pairs-requires-clause-run g c =
    let turn = cut c.loop-first.rest.now c.triple_run.result c.split_at.result.0.now c.split_at.result.1.now c.in-Some.first.now c.split_at.ensures.by_index.0 c.split_at.ensures.front c.split_at.ensures.back c.triple_run.ensures.bound c.triple_run.ensures.run c.triple_run.ensures.end c.in-Some.ensures.value in
    record {
      fits = subst (FitsSome c.loop-first.context 2) (sym c.get.ensures)
          (old_there key_of trip_rest c.args.change 2 c.args.context.now c.args.old.now c.args.triples.now c.requires.entries.fits c.requires.entries.order
          c.loop-first.context c.loop-first.rest.now c.loop-first.changes.items c.loop-first.invariant.0 c.in-Some.first.now.0 c.split_at.result.0.now c.split_at.result.1.now turn);
      order = run_order key_of trip_rest c.args.change 2 c.args.context.now c.args.old.now c.args.triples.now c.requires.entries.fits c.requires.entries.order
          c.loop-first.context c.loop-first.rest.now c.loop-first.changes.items c.loop-first.invariant.0 c.in-Some.first.now.0 c.split_at.result.0.now c.split_at.result.1.now turn;
      change = subst (λ o. IsChange (grows c.args.change) (set_at c.loop-first.context 2 o) (set_of_entries trip_rest c.split_at.result.0.now)) (sym c.get.ensures)
          (run_change key_of trip_rest c.args.change 2 c.args.context.now c.args.old.now c.args.triples.now c.requires.entries.fits c.requires.entries.order
          c.loop-first.context c.loop-first.rest.now c.loop-first.changes.items c.loop-first.invariant.0 c.in-Some.first.now.0 c.split_at.result.0.now c.split_at.result.1.now turn c.requires.entries.change);
    }

pub change_held_pairs-requires-clause-room : goal.change_held_pairs-requires-clause-room
change_held_pairs-requires-clause-room g c d r =
    let so_far = c.loop-first.invariant.0 in
    let whole : length c.args.triples.now ≡ length so_far.done + length c.loop-first.rest.now = ap length so_far.whole ∙ length-append so_far.done c.loop-first.rest.now in
    omega (arith, c.requires.room d r, c.loop-first.invariant.1.counts d r, (first_there c.loop-first.rest.now c.in-Some.first.now c.in-Some.ensures.value).0, whole)

pub change_held_pairs-requires-clause-some : goal.change_held_pairs-requires-clause-some
change_held_pairs-requires-clause-some g c =
    let turn = cut c.loop-first.rest.now c.triple_run.result c.split_at.result.0.now c.split_at.result.1.now c.in-Some.first.now c.split_at.ensures.by_index.0 c.split_at.ensures.front c.split_at.ensures.back c.triple_run.ensures.bound c.triple_run.ensures.run c.triple_run.ensures.end c.in-Some.ensures.value in
    turn.some

pub change_held_pairs-requires-clause-held : goal.change_held_pairs-requires-clause-held
change_held_pairs-requires-clause-held g c r =
    let turn = cut c.loop-first.rest.now c.triple_run.result c.split_at.result.0.now c.split_at.result.1.now c.in-Some.first.now c.split_at.ensures.by_index.0 c.split_at.ensures.front c.split_at.ensures.back c.triple_run.ensures.bound c.triple_run.ensures.run c.triple_run.ensures.end c.in-Some.ensures.value in
    subst (λ o. option_leads o r ≤ holds_of c.loop-first.context 2 r) (sym c.get.ensures)
    (edge_held key_of trip_rest g.M.Mix.mixed c.args.change 2 c.args.context.now c.args.old.now c.args.triples.now c.requires.entries.fits c.requires.entries.order c.requires.held c.args.log.now.steps
    c.loop-first.context c.loop-first.rest.now c.loop-first.changes.items c.loop-first.invariant.0 c.loop-first.log.steps (2 ^ 34 * length c.loop-first.invariant.0.done) c.loop-first.invariant.1 c.in-Some.first.now.0 c.split_at.result.0.now c.split_at.result.1.now turn r)

pub change_held_pairs-requires-clause-size : goal.change_held_pairs-requires-clause-size
change_held_pairs-requires-clause-size g c =
    let turn = cut c.loop-first.rest.now c.triple_run.result c.split_at.result.0.now c.split_at.result.1.now c.in-Some.first.now c.split_at.ensures.by_index.0 c.split_at.ensures.front c.split_at.ensures.back c.triple_run.ensures.bound c.triple_run.ensures.run c.triple_run.ensures.end c.in-Some.ensures.value in
    subst (λ o. set.len (after (grows c.args.change) (set_at c.loop-first.context 2 o) (set_of_entries trip_rest c.split_at.result.0.now)) < 2 ^ 64) (sym c.get.ensures)
    (run_small key_of trip_rest c.args.change 2 c.args.context.now c.args.old.now c.args.triples.now c.requires.entries.fits c.requires.entries.order
    c.loop-first.context c.loop-first.rest.now c.loop-first.changes.items c.loop-first.invariant.0 c.in-Some.first.now.0 c.split_at.result.0.now c.split_at.result.1.now turn c.requires.size)

pub loop-first-preserved : goal.loop-first-preserved
loop-first-preserved g c =
    let so_far = c.loop-first.invariant.0 in
    let run = c.split_at.result.0.now in
    let turn : Cut c.loop-first.rest.now c.in-Some.first.now.0 run c.split_at.result.1.now =
    cut c.loop-first.rest.now c.triple_run.result run c.split_at.result.1.now c.in-Some.first.now c.split_at.ensures.by_index.0 c.split_at.ensures.front c.split_at.ensures.back c.triple_run.ensures.bound c.triple_run.ensures.run c.triple_run.ensures.end c.in-Some.ensures.value in
    let more : length (so_far.done ++ run) ≡ length so_far.done + length run = length-append so_far.done run in
    let stands = subst (λ o. StandsAt c.change_held_pairs.new.context 2 (after (grows c.args.change) (set_at c.loop-first.context 2 o) (set_of_entries trip_rest run)) c.in_ok-edge.edge) c.get.ensures c.in_ok-edge.ensures.stands in
    let now = subst (λ o. IsLogged g.M.Mix.mixed c.loop-first.context c.change_held_pairs.new.context c.loop-first.log.steps c.change_held_pairs.new.log.steps (edge_hold 2 c.in_ok-edge.edge) (edge_hold 2 o) (run_room run)) c.get.ensures c.in_ok-edge.ensures.logged in
    let pushed = c.push_reserved.ensures.items ∙ ap (λ cs. cs ++ (c.in-Some.first.now.0, c.in_ok-edge.edge) ∷ []) c.in_ok-reserve.ensures.items in (
      done_step key_of trip_rest g.M.Mix.mixed c.args.change 2 c.args.context.now c.args.old.now c.args.triples.now c.requires.entries.fits c.requires.entries.order c.requires.held c.args.log.now.steps
          c.loop-first.context c.loop-first.rest.now c.loop-first.changes.items so_far c.loop-first.log.steps (2 ^ 34 * length so_far.done) c.loop-first.invariant.1 c.in-Some.first.now.0 run c.split_at.result.1.now turn
          c.change_held_pairs.new.context c.change_held_pairs.new.log.steps c.in_ok-edge.edge (run_room run) now stands c.push_reserved.new.self.items pushed,
      hand_step key_of trip_rest g.M.Mix.mixed c.args.change 2 c.args.context.now c.args.old.now c.args.triples.now c.requires.entries.fits c.requires.entries.order c.requires.held c.args.log.now.steps
          c.loop-first.context c.loop-first.rest.now c.loop-first.changes.items so_far c.loop-first.log.steps (2 ^ 34 * length so_far.done) c.loop-first.invariant.1 c.in-Some.first.now.0 run c.split_at.result.1.now turn
          c.change_held_pairs.new.context c.change_held_pairs.new.log.steps c.in_ok-edge.edge (run_room run) now stands c.push_reserved.new.self.items pushed (2 ^ 34 * length (so_far.done ++ run)) (omega (arith, more, turn.some)),
      omega (arith, c.loop-first.invariant.2, c.change_held_pairs.ensures.ticks, more, turn.some),
      (λ G H i turned shared.
          let before = c.loop-first.invariant.3 G H i turned shared in (
            shared_on G H c.loop-first.context c.change_held_pairs.new.context c.get.result c.in_ok-edge.edge (after (grows c.args.change) (set_at c.loop-first.context 2 c.get.result) (set_of_entries trip_rest run)) before.0 c.in_ok-edge.ensures.risen c.in_ok-edge.ensures.logged.stay c.in_ok-edge.ensures.stands
                (run_shared c.args.change G H i c.args.context.now c.args.old.now c.args.triples.now turned c.requires.entries.fits c.requires.entries.order c.requires.entries.change
                c.loop-first.context c.loop-first.rest.now c.loop-first.changes.items so_far c.in-Some.first.now.0 run c.split_at.result.1.now turn c.get.result c.get.ensures),
            omega (
              arith,
              before.1,
              c.change_held_pairs.ensures.retained G H before.0,
              more,
              run_cost c.args.change G H i c.args.context.now c.args.old.now c.args.triples.now turned c.requires.entries.fits c.requires.entries.order c.requires.entries.change
                  c.loop-first.context c.loop-first.rest.now c.loop-first.changes.items so_far c.in-Some.first.now.0 run c.split_at.result.1.now turn c.get.result c.get.ensures,
              ap (sum_at (cost_at G H i)) pushed,
              sum_at-push (cost_at G H i) c.loop-first.changes.items (c.in-Some.first.now.0, c.in_ok-edge.edge),
            ),
          )),
    )

pub returns-in_err-edge-clause-grew : goal.returns-in_err-edge-clause-grew
returns-in_err-edge-clause-grew g c =
    on_err _ c.from_residual-in_err-edge.result
    (grows_on g.M.Mix.mixed c.args.context.now c.loop-first.context c.change_held_pairs.new.context c.args.log.now.steps c.loop-first.log.steps c.change_held_pairs.new.log.steps c.loop-first.invariant.1.grew c.in_err-edge.ensures.grew)

pub returns-in_err-edge-clause-ticks : goal.returns-in_err-edge-clause-ticks
returns-in_err-edge-clause-ticks g c =
    let so_far = c.loop-first.invariant.0 in
    let whole : length c.args.triples.now ≡ length so_far.done + length c.loop-first.rest.now = ap length so_far.whole ∙ length-append so_far.done c.loop-first.rest.now in
    omega (arith, c.loop-first.invariant.2, c.change_held_pairs.ensures.ticks, (first_there c.loop-first.rest.now c.in-Some.first.now c.in-Some.ensures.value).0, whole)

pub returns-in_err-reserve-clause-retained : goal.returns-in_err-reserve-clause-retained
returns-in_err-reserve-clause-retained g c G H i turned shared =
    let so_far = c.loop-first.invariant.0 in
    let whole : length c.args.triples.now ≡ length so_far.done + length c.loop-first.rest.now = ap length so_far.whole ∙ length-append so_far.done c.loop-first.rest.now in
    omega (arith, (c.loop-first.invariant.3 G H i turned shared).1, whole, costs_within c.args.change G H i c.loop-first.changes.items so_far.rise)

pub returns-clause-retained : goal.returns-clause-retained
returns-clause-retained g c G H i turned shared =
    let so_far = c.loop-first.invariant.0 in
    let whole : length c.args.triples.now ≡ length so_far.done + length c.loop-first.rest.now = ap length so_far.whole ∙ length-append so_far.done c.loop-first.rest.now in
    omega (arith, (c.loop-first.invariant.3 G H i turned shared).1, whole, costs_within c.args.change G H i c.loop-first.changes.items so_far.rise)

pub returns-clause-shared : goal.returns-clause-shared
returns-clause-shared g c G H i turned shared = (c.loop-first.invariant.3 G H i turned shared).0

pub returns-in_err-edge-clause-retained : goal.returns-in_err-edge-clause-retained
returns-in_err-edge-clause-retained g c G H i turned shared =
    let so_far = c.loop-first.invariant.0 in
    let run = c.split_at.result.0.now in
    let turn : Cut c.loop-first.rest.now c.in-Some.first.now.0 run c.split_at.result.1.now =
    cut c.loop-first.rest.now c.triple_run.result run c.split_at.result.1.now c.in-Some.first.now c.split_at.ensures.by_index.0 c.split_at.ensures.front c.split_at.ensures.back c.triple_run.ensures.bound c.triple_run.ensures.run c.triple_run.ensures.end c.in-Some.ensures.value in
    let whole : length c.args.triples.now ≡ length so_far.done + length c.loop-first.rest.now = ap length so_far.whole ∙ length-append so_far.done c.loop-first.rest.now in
    let parts : length c.loop-first.rest.now ≡ length run + length c.split_at.result.1.now = ap length turn.whole ∙ length-append run c.split_at.result.1.now in
    let before = c.loop-first.invariant.3 G H i turned shared in
    omega (
      arith,
      before.1,
      c.change_held_pairs.ensures.retained G H before.0,
      whole,
      parts,
      run_cost c.args.change G H i c.args.context.now c.args.old.now c.args.triples.now turned c.requires.entries.fits c.requires.entries.order c.requires.entries.change
          c.loop-first.context c.loop-first.rest.now c.loop-first.changes.items so_far c.in-Some.first.now.0 run c.split_at.result.1.now turn c.get.result c.get.ensures,
      costs_so_far c.args.change G H i c.args.context.now c.args.old.now c.args.triples.now turned c.requires.entries.fits c.requires.entries.order c.requires.entries.change
          c.loop-first.context c.loop-first.rest.now c.loop-first.changes.items so_far c.in-Some.first.now.0 run c.split_at.result.1.now turn,
    )
