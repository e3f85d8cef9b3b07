use Rattle.std.proofs.Common.{◌≡◌, ◌≤◌, None, ap, subst, sym, ◌∙◌, refl, length, arith}
use Rattle.std.specs.FinSet as set
use Rattle.hypertrie_model.specs.Changes.{after, IsChange}
use Rattle.trie_node.specs.Sets.{edges_in}
use Rattle.trie_context.specs.Rows.{set_of}
use Rattle.trie_context.specs.Holds.{holds_of, one_at, at_depth, nothing, RowsStay}
use Rattle.trie_context.specs.Kept.{AreMoved}
use Rattle.trie_context.specs.FitEdges.{set_at, option_leads}
use Rattle.trie_change.specs.After.{run_room}
use Rattle.trie_change.specs.Batches.{set_of_entries, trip_rest}
use Rattle.trie_change.specs.BatchLaws.{order_once}
use Rattle.trie_change.specs.Changes.{grows}
use Rattle.trie_change.specs.FigureLaws.{has_size, size_is, hash_is}
use Rattle.trie_change.specs.HandLaws.{fits_stay, set_at_stays, hand_held, given_back}
use Rattle.trie_context.specs.MoveLaws.{at_most, at_none, one_at_most, counts_as_before, gained_none, rows_as_before, rows_stay_on}
use Rattle.trie_change.specs.PairLaws.{on_err}
use Rattle.trie_change.proofs.PairChanges.{both, changed_deep, pair_parts, node_held, node_given, edge_stands, edge_moved}
use Rattle.trie_change.proofs.pairs.change_pairs.Goals as goal

pub changed_size-size-requires : goal.changed_size-size-requires
changed_size-size-requires g c =
    has_size c.args.change (set_at c.args.context.now 2 c.args.old) (set_of_entries trip_rest c.args.run.now) c.requires.run.change c.requires.size c.pair_figures-size.result.0 (length c.args.run.now) c.pair_figures-size.ensures.size (order_once trip_rest c.args.run.now c.requires.run.order)

pub toggled_pairs-hash-requires : goal.toggled_pairs-hash-requires
toggled_pairs-hash-requires g c = order_once trip_rest c.args.run.now c.requires.run.order

pub change_pair_position-requires-2-clause-run : goal.change_pair_position-requires-2-clause-run
change_pair_position-requires-2-clause-run g c =
    record {
      fits = fits_stay g.M.Mix.mixed c.args.context.now c.change_pair_position.new.context c.is_kept.ensures c.in_ok-first.ensures.held.stay 2 c.args.old c.requires.run.fits;
      order = c.requires.run.order;
      change = subst (λ S. IsChange (grows c.args.change) S (set_of_entries trip_rest c.args.run.now))
          (sym (set_at_stays g.M.Mix.mixed c.args.context.now c.change_pair_position.new.context c.is_kept.ensures c.in_ok-first.ensures.held.stay 2 c.args.old c.requires.run.fits)) c.requires.run.change;
    }

pub release_map-requires : goal.release_map-requires
release_map-requires g c = record {
  held = λ r.
      subst (λ u. edges_in c.in_ok-first.first r ≤ holds_of u 1 r) (sym c.in-Err.ensures.kept) (hand_held 1 (edges_in c.in_ok-first.first) c.in_ok-first.ensures.held.moved r);
}

pub returns-in-Err-clause-kept : goal.returns-in-Err-clause-kept
returns-in-Err-clause-kept g c =
    given_back g.M.Mix.mixed c.args.context.now c.change_pair_position.new.context c.release_map.new.self c.is_kept.ensures 1 (edges_in c.in_ok-first.first) (edges_in c.in_ok-first.first)
    c.in_ok-first.ensures.held.moved c.in_ok-first.ensures.held.stay
    (subst (λ u. AreMoved g.M.Mix.mixed u c.release_map.new.self nothing (at_depth 1 (edges_in c.in_ok-first.first))) c.in-Err.ensures.kept c.release_map.ensures.moved)
    (subst (λ u. RowsStay c.release_map.new.self u) c.in-Err.ensures.kept c.release_map.ensures.came)
    (λ r. refl)

pub returns-then-size-eq0-clause-stands : goal.returns-then-size-eq0-clause-stands
returns-then-size-eq0-clause-stands g c =
    let t = c.args.context.now in
    let H = set_at t 2 c.args.old in
    let B = set_of_entries trip_rest c.args.run.now in
    let G = after (grows c.args.change) H B in
    let sized : c.changed_size-size.result ≡ set.len G = c.changed_size-size.ensures ∙ size_is c.args.change H B c.requires.run.change c.pair_figures-size.result.0 (length c.args.run.now) c.pair_figures-size.ensures.size (order_once trip_rest c.args.run.now c.requires.run.order) in
    set.empty_of_len G (sym sized ∙ c.if-size-eq0.true)

pub returns-then-size-eq0-clause-held : goal.returns-then-size-eq0-clause-held
returns-then-size-eq0-clause-held g c =
    let t = c.args.context.now in
    record {
      moved = gained_none g.M.Mix.mixed t c.is_kept.ensures (at_depth 2 (option_leads None)) (at_none 2 (option_leads None) (λ r. refl));
      counts = counts_as_before t (λ _ _. run_room c.args.run.now);
      stay = rows_as_before t;
    }

pub intern-requires-clause-form : goal.intern-requires-clause-form
intern-requires-clause-form g c =
    let t = c.args.context.now in
    let H = set_at t 2 c.args.old in
    let B = set_of_entries trip_rest c.args.run.now in
    let G = after (grows c.args.change) H B in
    let sized : c.changed_size-size.result ≡ set.len G = c.changed_size-size.ensures ∙ size_is c.args.change H B c.requires.run.change c.pair_figures-size.result.0 (length c.args.run.now) c.pair_figures-size.ensures.size (order_once trip_rest c.args.run.now c.requires.run.order) in
    let u = c.change_pair_position-2.new.context in
    let kept = c.is_kept.ensures in
    let made = both g.M.Mix.mixed t kept c.change_pair_position.new.context u c.args.change c.args.old c.requires.run.fits B c.in_ok-first.first c.in-Ok.second
    c.in_ok-first.ensures.slices c.in_ok-first.ensures.held.moved c.in_ok-first.ensures.held.stay c.in-Ok.ensures.slices c.in-Ok.ensures.held.moved c.in-Ok.ensures.held.stay in
    let some : 1 ≤ set.len G = let not = c.if-size-eq0.false in omega arith in
    let hashed = c.toggled_pairs-hash.ensures ∙ hash_is g.M.Mix.mixed 2 (grows c.args.change) H B c.requires.run.change c.pair_figures-size.result.1 c.pair_figures-size.ensures.hash in
    let parts = pair_parts g.M.Mix.mixed t kept u G c.in_ok-first.first c.in-Ok.second made c.changed_size-size.result c.toggled_pairs-hash.result (changed_deep g.M.Mix.mixed t kept c.args.change c.args.old c.requires.run.fits c.args.run.now) sized hashed in
    let is = c.pair_node-node.ensures (set_of u 1) G some parts in
    is.formed

pub intern-requires-clause-held : goal.intern-requires-clause-held
intern-requires-clause-held g c =
    let t = c.args.context.now in
    let H = set_at t 2 c.args.old in
    let B = set_of_entries trip_rest c.args.run.now in
    let G = after (grows c.args.change) H B in
    let sized : c.changed_size-size.result ≡ set.len G = c.changed_size-size.ensures ∙ size_is c.args.change H B c.requires.run.change c.pair_figures-size.result.0 (length c.args.run.now) c.pair_figures-size.ensures.size (order_once trip_rest c.args.run.now c.requires.run.order) in
    let u = c.change_pair_position-2.new.context in
    let kept = c.is_kept.ensures in
    let made = both g.M.Mix.mixed t kept c.change_pair_position.new.context u c.args.change c.args.old c.requires.run.fits B c.in_ok-first.first c.in-Ok.second
    c.in_ok-first.ensures.slices c.in_ok-first.ensures.held.moved c.in_ok-first.ensures.held.stay c.in-Ok.ensures.slices c.in-Ok.ensures.held.moved c.in-Ok.ensures.held.stay in
    let some : 1 ≤ set.len G = let not = c.if-size-eq0.false in omega arith in
    let hashed = c.toggled_pairs-hash.ensures ∙ hash_is g.M.Mix.mixed 2 (grows c.args.change) H B c.requires.run.change c.pair_figures-size.result.1 c.pair_figures-size.ensures.hash in
    let parts = pair_parts g.M.Mix.mixed t kept u G c.in_ok-first.first c.in-Ok.second made c.changed_size-size.result c.toggled_pairs-hash.result (changed_deep g.M.Mix.mixed t kept c.args.change c.args.old c.requires.run.fits c.args.run.now) sized hashed in
    let is = c.pair_node-node.ensures (set_of u 1) G some parts in
    node_held g.M.Mix.mixed t kept u G c.in_ok-first.first c.in-Ok.second made c.pair_node-node.result is

pub returns-in_err-held-clause-kept : goal.returns-in_err-held-clause-kept
returns-in_err-held-clause-kept g c =
    let t = c.args.context.now in
    let H = set_at t 2 c.args.old in
    let B = set_of_entries trip_rest c.args.run.now in
    let G = after (grows c.args.change) H B in
    let sized : c.changed_size-size.result ≡ set.len G = c.changed_size-size.ensures ∙ size_is c.args.change H B c.requires.run.change c.pair_figures-size.result.0 (length c.args.run.now) c.pair_figures-size.ensures.size (order_once trip_rest c.args.run.now c.requires.run.order) in
    let u = c.change_pair_position-2.new.context in
    let kept = c.is_kept.ensures in
    let made = both g.M.Mix.mixed t kept c.change_pair_position.new.context u c.args.change c.args.old c.requires.run.fits B c.in_ok-first.first c.in-Ok.second
    c.in_ok-first.ensures.slices c.in_ok-first.ensures.held.moved c.in_ok-first.ensures.held.stay c.in-Ok.ensures.slices c.in-Ok.ensures.held.moved c.in-Ok.ensures.held.stay in
    let some : 1 ≤ set.len G = let not = c.if-size-eq0.false in omega arith in
    let hashed = c.toggled_pairs-hash.ensures ∙ hash_is g.M.Mix.mixed 2 (grows c.args.change) H B c.requires.run.change c.pair_figures-size.result.1 c.pair_figures-size.ensures.hash in
    let parts = pair_parts g.M.Mix.mixed t kept u G c.in_ok-first.first c.in-Ok.second made c.changed_size-size.result c.toggled_pairs-hash.result (changed_deep g.M.Mix.mixed t kept c.args.change c.args.old c.requires.run.fits c.args.run.now) sized hashed in
    let is = c.pair_node-node.ensures (set_of u 1) G some parts in
    on_err _ c.from_residual-in_err-held.result (node_given g.M.Mix.mixed t kept u G c.in_ok-first.first c.in-Ok.second made c.pair_node-node.result is c.intern.new.self c.in_err-held.ensures.given c.in_err-held.ensures.came)

pub returns-clause-stands : goal.returns-clause-stands
returns-clause-stands g c =
    let t = c.args.context.now in
    let H = set_at t 2 c.args.old in
    let B = set_of_entries trip_rest c.args.run.now in
    let G = after (grows c.args.change) H B in
    let sized : c.changed_size-size.result ≡ set.len G = c.changed_size-size.ensures ∙ size_is c.args.change H B c.requires.run.change c.pair_figures-size.result.0 (length c.args.run.now) c.pair_figures-size.ensures.size (order_once trip_rest c.args.run.now c.requires.run.order) in
    let u = c.change_pair_position-2.new.context in
    let kept = c.is_kept.ensures in
    let made = both g.M.Mix.mixed t kept c.change_pair_position.new.context u c.args.change c.args.old c.requires.run.fits B c.in_ok-first.first c.in-Ok.second
    c.in_ok-first.ensures.slices c.in_ok-first.ensures.held.moved c.in_ok-first.ensures.held.stay c.in-Ok.ensures.slices c.in-Ok.ensures.held.moved c.in-Ok.ensures.held.stay in
    let some : 1 ≤ set.len G = let not = c.if-size-eq0.false in omega arith in
    let hashed = c.toggled_pairs-hash.ensures ∙ hash_is g.M.Mix.mixed 2 (grows c.args.change) H B c.requires.run.change c.pair_figures-size.result.1 c.pair_figures-size.ensures.hash in
    let parts = pair_parts g.M.Mix.mixed t kept u G c.in_ok-first.first c.in-Ok.second made c.changed_size-size.result c.toggled_pairs-hash.result (changed_deep g.M.Mix.mixed t kept c.args.change c.args.old c.requires.run.fits c.args.run.now) sized hashed in
    let is = c.pair_node-node.ensures (set_of u 1) G some parts in
    edge_stands g.M.Mix.mixed t kept u G c.in_ok-first.first c.in-Ok.second made c.pair_node-node.result is c.intern.new.self c.in_ok-held.held c.in_ok-held.ensures.there c.in_ok-held.ensures.stay some c.into_edge.result c.into_edge.ensures

pub returns-clause-held : goal.returns-clause-held
returns-clause-held g c =
    let t = c.args.context.now in
    let H = set_at t 2 c.args.old in
    let B = set_of_entries trip_rest c.args.run.now in
    let G = after (grows c.args.change) H B in
    let sized : c.changed_size-size.result ≡ set.len G = c.changed_size-size.ensures ∙ size_is c.args.change H B c.requires.run.change c.pair_figures-size.result.0 (length c.args.run.now) c.pair_figures-size.ensures.size (order_once trip_rest c.args.run.now c.requires.run.order) in
    let u = c.change_pair_position-2.new.context in
    let kept = c.is_kept.ensures in
    let made = both g.M.Mix.mixed t kept c.change_pair_position.new.context u c.args.change c.args.old c.requires.run.fits B c.in_ok-first.first c.in-Ok.second
    c.in_ok-first.ensures.slices c.in_ok-first.ensures.held.moved c.in_ok-first.ensures.held.stay c.in-Ok.ensures.slices c.in-Ok.ensures.held.moved c.in-Ok.ensures.held.stay in
    let some : 1 ≤ set.len G = let not = c.if-size-eq0.false in omega arith in
    let hashed = c.toggled_pairs-hash.ensures ∙ hash_is g.M.Mix.mixed 2 (grows c.args.change) H B c.requires.run.change c.pair_figures-size.result.1 c.pair_figures-size.ensures.hash in
    let parts = pair_parts g.M.Mix.mixed t kept u G c.in_ok-first.first c.in-Ok.second made c.changed_size-size.result c.toggled_pairs-hash.result (changed_deep g.M.Mix.mixed t kept c.args.change c.args.old c.requires.run.fits c.args.run.now) sized hashed in
    let is = c.pair_node-node.ensures (set_of u 1) G some parts in
    record {
      moved = edge_moved g.M.Mix.mixed t kept u G c.in_ok-first.first c.in-Ok.second made c.pair_node-node.result is c.intern.new.self c.in_ok-held.held c.in_ok-held.ensures.there c.in_ok-held.ensures.stay c.in_ok-held.ensures.moved c.into_edge.result c.into_edge.ensures;
      counts = λ d r. omega (arith, c.in_ok-first.ensures.held.counts d r, c.in-Ok.ensures.held.counts d r, c.in_ok-held.ensures.counts d r, at_most 2 (one_at c.in_ok-held.held) 1 (one_at_most c.in_ok-held.held) d r, c.requires.some);
      stay = rows_stay_on t u c.intern.new.self (rows_stay_on t c.change_pair_position.new.context u c.in_ok-first.ensures.held.stay c.in-Ok.ensures.held.stay) c.in_ok-held.ensures.stay;
    }

pub returns-in-Err-clause-retained : goal.returns-in-Err-clause-retained
returns-in-Err-clause-retained g c =
    let still = set_at_stays g.M.Mix.mixed c.args.context.now c.change_pair_position.new.context c.is_kept.ensures c.in_ok-first.ensures.held.stay 2 c.args.old c.requires.run.fits in
    omega (arith, c.change_pair_position.ensures.retained, c.change_pair_position-2.ensures.retained, ap set.len still)

pub returns-in_err-held-clause-retained : goal.returns-in_err-held-clause-retained
returns-in_err-held-clause-retained g c =
    let still = set_at_stays g.M.Mix.mixed c.args.context.now c.change_pair_position.new.context c.is_kept.ensures c.in_ok-first.ensures.held.stay 2 c.args.old c.requires.run.fits in
    omega (arith, c.change_pair_position.ensures.retained, c.change_pair_position-2.ensures.retained, ap set.len still)

pub returns-clause-retained : goal.returns-clause-retained
returns-clause-retained g c =
    let still = set_at_stays g.M.Mix.mixed c.args.context.now c.change_pair_position.new.context c.is_kept.ensures c.in_ok-first.ensures.held.stay 2 c.args.old c.requires.run.fits in
    omega (arith, c.change_pair_position.ensures.retained, c.change_pair_position-2.ensures.retained, ap set.len still)
