use Rattle.std.proofs.Common.{rules, ◌≡◌, ℕ, ◌^◌, ◌+◌, ◌≤◌, ◌<◌, ◌≢◌, [], ◌∷◌, ◌++◌, List, length, take, drop, sym, ◌∙◌, ap, subst, arith, length-append, Some}
use Rattle.std.specs.List.{All, slice_index_or, slice_get}
use Rattle.std.specs.FinSet as set
use Rattle.trie_depth.specs.declared.id.Id.{Id}
use Rattle.trie_depth.specs.declared.id.Trip.{Trip}
use Rattle.hypertrie_model.specs.Changes.{after, IsChange}
use Rattle.trie_context.specs.declared.tables.Tables.{Tables}
use Rattle.trie_context.specs.Rows.{row_of}
use Rattle.trie_context.specs.Holds.{count_of}
use Rattle.trie_context.specs.FitEdges.{set_at, StandsAt}
use Rattle.trie_change.specs.Batches.{set_of_entries, trip_rest}
use Rattle.trie_change.specs.Changes.{grows}
use Rattle.trie_change.specs.Rooms.{FitsSome}
use Rattle.trie_change.specs.RunLaws.{IsCut, cut_at, first_there}
use Rattle.trie_change.specs.Sums.{sum_at, sum_at-push, old_size, old_sizes}
use Rattle.trie_change.proofs.MapLemmas.{begins, run_order, old_there, run_change, run_small, old_size_is, old_sizes_so_far, step}
use Rattle.trie_change.proofs.triple_map.triple_changes.Goals as goal

pub loop-first-init : goal.loop-first-init
loop-first-init g c = (begins (λ (p : Trip). p.0.0) trip_rest g.M.Mix.mixed c.args.change 2 c.args.context.now c.args.old.now c.args.triples.now c.is_kept.ensures c.requires.entries.fits c.args.changes.now.items c.requires.none, (λ d r. omega arith), omega arith, omega arith)

abbrev key_of : Trip → ℕ
key_of p = p.0.0

abbrev Cut : List Trip → Id → List Trip → List Trip → Type 0
Cut rest k run others = IsCut key_of trip_rest rest k.0 run others

cut : (rest : List Trip) (n : ℕ) (run others : List Trip) (p : Trip) → rest ≡ run ++ others → run ≡ take n rest → others ≡ drop n rest → n ≤ length rest → All (λ (q : Trip). q.0.0 ≡ p.0.0) (take n rest)
    → ((q : Trip) → n < length rest → (slice_index_or rest n q).0.0 ≢ p.0.0) → Some p ≡ slice_get rest 0 → Cut rest p.0 run others
cut rest n run others p whole front back le all ends is = let here = first_there rest p is in cut_at key_of trip_rest rest p.0.0 n run others whole front back le all ends p here.0 (ap key_of here.1)

pub change_pairs-requires-clause-run : goal.change_pairs-requires-clause-run
change_pairs-requires-clause-run g c =
    record {
      fits = subst (FitsSome c.loop-first.context 2) (sym c.get.ensures)
          (old_there key_of trip_rest g.M.Mix.mixed c.args.change 2 c.args.context.now c.args.old.now c.args.triples.now c.is_kept.ensures c.requires.entries.fits c.requires.entries.order
          c.loop-first.context c.loop-first.rest.now c.loop-first.changes.items c.loop-first.invariant.0 c.in-Some.first.now.0 c.split_at.result.0.now c.split_at.result.1.now
          (cut c.loop-first.rest.now c.triple_run.result c.split_at.result.0.now c.split_at.result.1.now c.in-Some.first.now c.split_at.ensures.by_index.0 c.split_at.ensures.front c.split_at.ensures.back c.triple_run.ensures.bound c.triple_run.ensures.run c.triple_run.ensures.end c.in-Some.ensures.value));
      order = run_order key_of trip_rest g.M.Mix.mixed c.args.change 2 c.args.context.now c.args.old.now c.args.triples.now c.is_kept.ensures c.requires.entries.fits c.requires.entries.order
          c.loop-first.context c.loop-first.rest.now c.loop-first.changes.items c.loop-first.invariant.0 c.in-Some.first.now.0 c.split_at.result.0.now c.split_at.result.1.now
          (cut c.loop-first.rest.now c.triple_run.result c.split_at.result.0.now c.split_at.result.1.now c.in-Some.first.now c.split_at.ensures.by_index.0 c.split_at.ensures.front c.split_at.ensures.back c.triple_run.ensures.bound c.triple_run.ensures.run c.triple_run.ensures.end c.in-Some.ensures.value);
      change = subst (λ o. IsChange (grows c.args.change) (set_at c.loop-first.context 2 o) (set_of_entries trip_rest c.split_at.result.0.now)) (sym c.get.ensures)
          (run_change key_of trip_rest g.M.Mix.mixed c.args.change 2 c.args.context.now c.args.old.now c.args.triples.now c.is_kept.ensures c.requires.entries.fits c.requires.entries.order
          c.loop-first.context c.loop-first.rest.now c.loop-first.changes.items c.loop-first.invariant.0 c.in-Some.first.now.0 c.split_at.result.0.now c.split_at.result.1.now
          (cut c.loop-first.rest.now c.triple_run.result c.split_at.result.0.now c.split_at.result.1.now c.in-Some.first.now c.split_at.ensures.by_index.0 c.split_at.ensures.front c.split_at.ensures.back c.triple_run.ensures.bound c.triple_run.ensures.run c.triple_run.ensures.end c.in-Some.ensures.value) c.requires.entries.change);
    }

pub change_pairs-requires-clause-room : goal.change_pairs-requires-clause-room
change_pairs-requires-clause-room g c d r =
    let so_far = c.loop-first.invariant.0 in
    let whole : length c.args.triples.now ≡ length so_far.runs.done + length c.loop-first.rest.now = ap length so_far.runs.whole ∙ length-append so_far.runs.done c.loop-first.rest.now in
    omega (arith, c.requires.room d r, c.loop-first.invariant.1 d r, (first_there c.loop-first.rest.now c.in-Some.first.now c.in-Some.ensures.value).0, whole)

pub loop-first-preserved : goal.loop-first-preserved
loop-first-preserved g c =
    let so_far = c.loop-first.invariant.0 in
    let run = c.split_at.result.0.now in
    let turn : Cut c.loop-first.rest.now c.in-Some.first.now.0 run c.split_at.result.1.now =
    cut c.loop-first.rest.now c.triple_run.result run c.split_at.result.1.now c.in-Some.first.now c.split_at.ensures.by_index.0 c.split_at.ensures.front c.split_at.ensures.back c.triple_run.ensures.bound c.triple_run.ensures.run c.triple_run.ensures.end c.in-Some.ensures.value in
    let pushed = c.push_reserved.ensures.items ∙ ap (λ cs. cs ++ (c.in-Some.first.now.0, c.in_ok-edge.edge) ∷ []) c.in_ok-reserve.ensures.items in
    let more : length (so_far.runs.done ++ run) ≡ length so_far.runs.done + length run = length-append so_far.runs.done run in (
      step key_of trip_rest g.M.Mix.mixed c.args.change 2 c.args.context.now c.args.old.now c.args.triples.now c.is_kept.ensures c.requires.entries.fits c.requires.entries.order
          c.loop-first.context c.loop-first.rest.now c.loop-first.changes.items so_far c.in-Some.first.now.0 run c.split_at.result.1.now turn
          c.change_pairs.new.context c.in_ok-edge.edge c.in_ok-edge.ensures.held.moved c.in_ok-edge.ensures.held.stay
          (subst (λ o. StandsAt c.change_pairs.new.context 2 (after (grows c.args.change) (set_at c.loop-first.context 2 o) (set_of_entries trip_rest run)) c.in_ok-edge.edge) c.get.ensures c.in_ok-edge.ensures.stands)
          c.push_reserved.new.self.items pushed,
      (λ d r. omega (arith, c.loop-first.invariant.1 d r, c.in_ok-edge.ensures.held.counts d r, more, turn.some)),
      omega (arith, c.loop-first.invariant.2, c.change_pairs.ensures.ticks, more, turn.some),
      omega (
        arith,
        c.loop-first.invariant.3,
        c.change_pairs.ensures.retained,
        more,
        old_size_is key_of trip_rest g.M.Mix.mixed c.args.change 2 c.args.context.now c.args.old.now c.args.triples.now c.is_kept.ensures c.requires.entries.fits c.requires.entries.order
            c.loop-first.context c.loop-first.rest.now c.loop-first.changes.items so_far c.in-Some.first.now.0 run c.split_at.result.1.now turn c.get.result c.get.ensures,
        ap (sum_at (old_size c.args.context.now 2 c.args.old.now)) pushed,
        sum_at-push (old_size c.args.context.now 2 c.args.old.now) c.loop-first.changes.items (c.in-Some.first.now.0, c.in_ok-edge.edge),
      ),
    )

pub change_pairs-requires-clause-size : goal.change_pairs-requires-clause-size
change_pairs-requires-clause-size g c =
    let run = c.split_at.result.0.now in
    let turn : Cut c.loop-first.rest.now c.in-Some.first.now.0 run c.split_at.result.1.now =
    cut c.loop-first.rest.now c.triple_run.result run c.split_at.result.1.now c.in-Some.first.now c.split_at.ensures.by_index.0 c.split_at.ensures.front c.split_at.ensures.back c.triple_run.ensures.bound c.triple_run.ensures.run c.triple_run.ensures.end c.in-Some.ensures.value in
    subst (λ o. set.len (after (grows c.args.change) (set_at c.loop-first.context 2 o) (set_of_entries trip_rest run)) < 2 ^ 64) (sym c.get.ensures)
    (run_small key_of trip_rest g.M.Mix.mixed c.args.change 2 c.args.context.now c.args.old.now c.args.triples.now c.is_kept.ensures c.requires.entries.fits c.requires.entries.order
    c.loop-first.context c.loop-first.rest.now c.loop-first.changes.items c.loop-first.invariant.0 c.in-Some.first.now.0 run c.split_at.result.1.now turn c.requires.size)

pub returns-in_err-edge-clause-held : goal.returns-in_err-edge-clause-held
returns-in_err-edge-clause-held g c =
    let so_far = c.loop-first.invariant.0 in
    let whole : length c.args.triples.now ≡ length so_far.runs.done + length c.loop-first.rest.now = ap length so_far.runs.whole ∙ length-append so_far.runs.done c.loop-first.rest.now in
    let same : (d r : ℕ) → count_of (row_of c.change_pairs.new.context d r) ≡ count_of (row_of c.loop-first.context d r) = λ d r. ap (λ (t : Tables). count_of (row_of t d r)) c.in_err-edge.ensures.kept in
    record {
      moved = search rules;
      counts = λ d r. omega (arith, c.loop-first.invariant.1 d r, whole, same d r);
      stay = search rules;
    }

pub returns-in_err-edge-clause-retained : goal.returns-in_err-edge-clause-retained
returns-in_err-edge-clause-retained g c =
    let so_far = c.loop-first.invariant.0 in
    let run = c.split_at.result.0.now in
    let turn : Cut c.loop-first.rest.now c.in-Some.first.now.0 run c.split_at.result.1.now =
    cut c.loop-first.rest.now c.triple_run.result run c.split_at.result.1.now c.in-Some.first.now c.split_at.ensures.by_index.0 c.split_at.ensures.front c.split_at.ensures.back c.triple_run.ensures.bound c.triple_run.ensures.run c.triple_run.ensures.end c.in-Some.ensures.value in
    let whole : length c.args.triples.now ≡ length so_far.runs.done + length c.loop-first.rest.now = ap length so_far.runs.whole ∙ length-append so_far.runs.done c.loop-first.rest.now in
    let parts : length c.loop-first.rest.now ≡ length run + length c.split_at.result.1.now = ap length turn.whole ∙ length-append run c.split_at.result.1.now in
    omega (
      arith,
      c.loop-first.invariant.3,
      c.change_pairs.ensures.retained,
      whole,
      parts,
      old_size_is key_of trip_rest g.M.Mix.mixed c.args.change 2 c.args.context.now c.args.old.now c.args.triples.now c.is_kept.ensures c.requires.entries.fits c.requires.entries.order
          c.loop-first.context c.loop-first.rest.now c.loop-first.changes.items so_far c.in-Some.first.now.0 run c.split_at.result.1.now turn c.get.result c.get.ensures,
      old_sizes_so_far key_of trip_rest g.M.Mix.mixed c.args.change 2 c.args.context.now c.args.old.now c.args.triples.now c.is_kept.ensures c.requires.entries.fits c.requires.entries.order
          c.loop-first.context c.loop-first.rest.now c.loop-first.changes.items so_far c.in-Some.first.now.0 run c.split_at.result.1.now turn,
    )

pub returns-in_err-reserve-clause-retained : goal.returns-in_err-reserve-clause-retained
returns-in_err-reserve-clause-retained g c =
    let so_far = c.loop-first.invariant.0 in
    let whole : length c.args.triples.now ≡ length so_far.runs.done + length c.loop-first.rest.now = ap length so_far.runs.whole ∙ length-append so_far.runs.done c.loop-first.rest.now in
    omega (arith, c.loop-first.invariant.3, whole, old_sizes c.args.context.now 2 c.args.old.now c.loop-first.changes.items so_far.runs.rise)

pub returns-clause-retained : goal.returns-clause-retained
returns-clause-retained g c =
    let so_far = c.loop-first.invariant.0 in
    let whole : length c.args.triples.now ≡ length so_far.runs.done + length c.loop-first.rest.now = ap length so_far.runs.whole ∙ length-append so_far.runs.done c.loop-first.rest.now in
    omega (arith, c.loop-first.invariant.3, whole, old_sizes c.args.context.now 2 c.args.old.now c.loop-first.changes.items so_far.runs.rise)
