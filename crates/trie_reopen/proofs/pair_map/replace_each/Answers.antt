use Rattle.std.proofs.Common.{◌≡◌, ℕ, ◌+◌, ◌≤◌, ◌<◌, ◌≢◌, [], ◌∷◌, ◌++◌, List, length, take, drop, sym, ◌∙◌, ap, subst, arith, length-append, Some}
use Rattle.std.specs.List.{All, slice_index_or, slice_get}
use Rattle.edge_map.specs.Edges.{changed}
use Rattle.trie_depth.specs.declared.id.Id.{Id}
use Rattle.trie_depth.specs.declared.id.Pair.{Pair}
use Rattle.hypertrie_model.specs.Changes.{after, IsChange}
use Rattle.change_log.specs.Laws.{logged_none, grows_on}
use Rattle.change_log.specs.Log.{edge_hold}
use Rattle.change_log.specs.Logged.{IsLogged}
use Rattle.trie_context.specs.FitEdges.{set_at, StandsAt}
use Rattle.trie_change.specs.After.{map_hold}
use Rattle.trie_change.specs.Batches.{set_of_entries, pair_rest}
use Rattle.trie_change.specs.Changes.{grows}
use Rattle.trie_change.specs.Rooms.{FitsSome}
use Rattle.trie_change.specs.PairLaws.{on_err}
use Rattle.trie_change.specs.RunLaws.{IsCut, cut_at, first_there, begins, run_order, old_there, run_change}
use Rattle.trie_reopen.proofs.HeldMaps.{done_step, hand_step}
use Rattle.trie_reopen.proofs.pair_map.replace_each.Goals as goal

pub loop-first-init : goal.loop-first-init
loop-first-init g c = (
  begins (λ (p : Pair). p.0.0) pair_rest c.args.change 1 c.args.context.now c.args.old.now c.args.pairs.now c.requires.entries.fits c.args.changes.now.items c.requires.none,
  logged_none g.M.Mix.mixed c.args.context.now c.args.log.now.steps (map_hold 1 (changed c.args.old.now c.args.changes.now.items)) (map_hold 1 c.args.old.now) _ c.is_kept.ensures (λ d r. ap (λ cs. map_hold 1 (changed c.args.old.now cs) d r) c.requires.none),
  omega arith,
  (λ d r deep. omega arith),
)

abbrev key_of : Pair → ℕ
key_of p = p.0.0

abbrev Cut : List Pair → Id → List Pair → List Pair → Type 0
Cut rest k run others = IsCut key_of pair_rest rest k.0 run others

cut : (rest : List Pair) (n : ℕ) (run others : List Pair) (p : Pair) → rest ≡ run ++ others → run ≡ take n rest → others ≡ drop n rest → n ≤ length rest → All (λ (q : Pair). q.0.0 ≡ p.0.0) (take n rest)
    → ((q : Pair) → n < length rest → (slice_index_or rest n q).0.0 ≢ p.0.0) → Some p ≡ slice_get rest 0 → Cut rest p.0 run others
cut rest n run others p whole front back le all ends is = let here = first_there rest p is in cut_at key_of pair_rest rest p.0.0 n run others whole front back le all ends p here.0 (ap key_of here.1)

pub replace_keys-requires-clause-run : goal.replace_keys-requires-clause-run
replace_keys-requires-clause-run g c =
    let turn = cut c.loop-first.rest.now c.pair_run.result c.split_at.result.0.now c.split_at.result.1.now c.in-Some.first.now c.split_at.ensures.by_index.0 c.split_at.ensures.front c.split_at.ensures.back c.pair_run.ensures.bound c.pair_run.ensures.run c.pair_run.ensures.end c.in-Some.ensures.value in
    record {
      fits = subst (FitsSome c.loop-first.context 1) (sym c.get.ensures)
          (old_there key_of pair_rest c.args.change 1 c.args.context.now c.args.old.now c.args.pairs.now c.requires.entries.fits c.requires.entries.order
          c.loop-first.context c.loop-first.rest.now c.loop-first.changes.items c.loop-first.invariant.0 c.in-Some.first.now.0 c.split_at.result.0.now c.split_at.result.1.now turn);
      order = run_order key_of pair_rest c.args.change 1 c.args.context.now c.args.old.now c.args.pairs.now c.requires.entries.fits c.requires.entries.order
          c.loop-first.context c.loop-first.rest.now c.loop-first.changes.items c.loop-first.invariant.0 c.in-Some.first.now.0 c.split_at.result.0.now c.split_at.result.1.now turn;
      change = subst (λ o. IsChange (grows c.args.change) (set_at c.loop-first.context 1 o) (set_of_entries pair_rest c.split_at.result.0.now)) (sym c.get.ensures)
          (run_change key_of pair_rest c.args.change 1 c.args.context.now c.args.old.now c.args.pairs.now c.requires.entries.fits c.requires.entries.order
          c.loop-first.context c.loop-first.rest.now c.loop-first.changes.items c.loop-first.invariant.0 c.in-Some.first.now.0 c.split_at.result.0.now c.split_at.result.1.now turn c.requires.entries.change);
    }

pub replace_keys-requires-clause-room : goal.replace_keys-requires-clause-room
replace_keys-requires-clause-room g c d r =
    let so_far = c.loop-first.invariant.0 in
    let whole : length c.args.pairs.now ≡ length so_far.done + length c.loop-first.rest.now = ap length so_far.whole ∙ length-append so_far.done c.loop-first.rest.now in
    omega (arith, c.requires.room d r, c.loop-first.invariant.1.counts d r, (first_there c.loop-first.rest.now c.in-Some.first.now c.in-Some.ensures.value).0, whole)

pub loop-first-preserved : goal.loop-first-preserved
loop-first-preserved g c =
    let so_far = c.loop-first.invariant.0 in
    let run = c.split_at.result.0.now in
    let turn : Cut c.loop-first.rest.now c.in-Some.first.now.0 run c.split_at.result.1.now =
    cut c.loop-first.rest.now c.pair_run.result run c.split_at.result.1.now c.in-Some.first.now c.split_at.ensures.by_index.0 c.split_at.ensures.front c.split_at.ensures.back c.pair_run.ensures.bound c.pair_run.ensures.run c.pair_run.ensures.end c.in-Some.ensures.value in
    let more : length (so_far.done ++ run) ≡ length so_far.done + length run = length-append so_far.done run in
    let stands = subst (λ o. StandsAt c.replace_keys.new.context 1 (after (grows c.args.change) (set_at c.loop-first.context 1 o) (set_of_entries pair_rest run)) c.in_ok-edge.edge) c.get.ensures c.in_ok-edge.ensures.stands in
    let now = subst (λ o. IsLogged g.M.Mix.mixed c.loop-first.context c.replace_keys.new.context c.loop-first.log.steps c.replace_keys.new.log.steps (edge_hold 1 c.in_ok-edge.edge) (edge_hold 1 o) 1) c.get.ensures c.in_ok-edge.ensures.logged in
    let pushed = c.push_reserved.ensures.items ∙ ap (λ cs. cs ++ (c.in-Some.first.now.0, c.in_ok-edge.edge) ∷ []) c.in_ok-reserve.ensures.items in (
      done_step key_of pair_rest g.M.Mix.mixed c.args.change 1 c.args.context.now c.args.old.now c.args.pairs.now c.requires.entries.fits c.requires.entries.order c.requires.held c.args.log.now.steps
          c.loop-first.context c.loop-first.rest.now c.loop-first.changes.items so_far c.loop-first.log.steps (length so_far.done) c.loop-first.invariant.1 c.in-Some.first.now.0 run c.split_at.result.1.now turn
          c.replace_keys.new.context c.replace_keys.new.log.steps c.in_ok-edge.edge 1 now stands c.push_reserved.new.self.items pushed,
      hand_step key_of pair_rest g.M.Mix.mixed c.args.change 1 c.args.context.now c.args.old.now c.args.pairs.now c.requires.entries.fits c.requires.entries.order c.requires.held c.args.log.now.steps
          c.loop-first.context c.loop-first.rest.now c.loop-first.changes.items so_far c.loop-first.log.steps (length so_far.done) c.loop-first.invariant.1 c.in-Some.first.now.0 run c.split_at.result.1.now turn
          c.replace_keys.new.context c.replace_keys.new.log.steps c.in_ok-edge.edge 1 now stands c.push_reserved.new.self.items pushed (length (so_far.done ++ run)) (omega (arith, more, turn.some)),
      omega (arith, c.loop-first.invariant.2, c.replace_keys.ensures.ticks, more, turn.some),
      (λ d r deep. omega (arith, c.loop-first.invariant.3 d r deep, c.in_ok-edge.ensures.risen d r deep)),
    )

pub returns-in_err-edge-clause-grew : goal.returns-in_err-edge-clause-grew
returns-in_err-edge-clause-grew g c =
    on_err _ c.from_residual-in_err-edge.result
    (grows_on g.M.Mix.mixed c.args.context.now c.loop-first.context c.replace_keys.new.context c.args.log.now.steps c.loop-first.log.steps c.replace_keys.new.log.steps c.loop-first.invariant.1.grew c.in_err-edge.ensures.grew)

pub returns-in_err-edge-clause-ticks : goal.returns-in_err-edge-clause-ticks
returns-in_err-edge-clause-ticks g c =
    let so_far = c.loop-first.invariant.0 in
    let whole : length c.args.pairs.now ≡ length so_far.done + length c.loop-first.rest.now = ap length so_far.whole ∙ length-append so_far.done c.loop-first.rest.now in
    omega (arith, c.loop-first.invariant.2, c.replace_keys.ensures.ticks, (first_there c.loop-first.rest.now c.in-Some.first.now c.in-Some.ensures.value).0, whole)
