use Rattle.std.proofs.Common.{rules, ◌≡◌, IfOk, ◌+◌, ◌≤◌, length, subst, sym, ap, ◌∙◌, refl, arith, None, Some}
use Rattle.std.specs.Ordering.{nat_cmp}
use Rattle.std.specs.FinSet as set
use Rattle.hypertrie_model.specs.Changes.{after}
use Rattle.hypertrie_model.specs.Slices.{slice}
use Rattle.trie_depth.specs.Tuples.{pair_tuple}
use Rattle.edge_map.specs.declared.edge.Edge.TheVariants.{Node as ToRow}
use Rattle.trie_node.specs.declared.node.Node.{Node}
use Rattle.trie_node.specs.Sets.{edges_of}
use Rattle.trie_context.specs.Rows.{node_of, set_of}
use Rattle.trie_context.specs.Holds.{one_at, at_depth}
use Rattle.trie_context.specs.FitEdges.{StandsAt, option_leads}
use Rattle.trie_context.specs.MoveLaws.{at_same}
use Rattle.change_log.specs.Laws.{grows_on, logged_as}
use Rattle.change_log.specs.Log.{Grows, edge_hold}
use Rattle.change_log.specs.Logged.{IsLogged}
use Rattle.trie_change.specs.After.{run_room}
use Rattle.trie_change.specs.Batches.{set_of_entries, trip_rest}
use Rattle.trie_change.specs.BatchLaws.{order_once}
use Rattle.trie_change.specs.Changes.{grows}
use Rattle.trie_change.specs.FigureLaws.{has_size, size_is, hash_is}
use Rattle.trie_change.specs.HandLaws.{leads_once}
use Rattle.trie_change.specs.PairLaws.{changes_of, if_ok, on_err}
use Rattle.trie_reopen.proofs.Unmoved.{err_then}
use Rattle.trie_reopen.proofs.OwnMaps.{slices_fit}
use Rattle.trie_reopen.proofs.PairTurns.{Maps, starts, changes_one, first_held, parts_are, node_held, stored}
use Rattle.trie_reopen.specs.Shared.{HoldsRiseBy}
use Rattle.trie_reopen.proofs.reopened.reopen_pairs.Given as given
use Rattle.trie_reopen.proofs.reopened.reopen_pairs.Goals as goal
use Rattle.trie_reopen.proofs.reopened.reopen_pairs.Goals.{After-open_pairs, In_ok-one, In_ok-two}

-- the row is taken out
opened : (g : given.Over) (c : goal.After-open_pairs g) → Maps g.M.Mix.mixed c.args.context.now c.args.log.now.steps c.args.row c.open_pairs.new.context c.open_pairs.new.log.steps (set_of c.args.context.now 2 c.args.row) 0 c.in_ok-first.first (set_of c.args.context.now 2 c.args.row) 1 c.in_ok-first.second 0
opened g c =
    let t0 = c.args.context.now in
    let l0 = c.args.log.now.steps in
    let row = c.args.row in
    let t1 = c.open_pairs.new.context in
    let l1 = c.open_pairs.new.log.steps in
    starts g.M.Mix.mixed t0 l0 row c.in_ok-first.first c.in_ok-first.second c.in_ok-first.ensures.first c.in_ok-first.ensures.second c.in_ok-first.ensures.edges t1 l1
    (subst (λ l. (n : Node) × (node_of t0 2 row ≡ Some n) × IsLogged g.M.Mix.mixed t0 t1 l l1 (at_depth 1 (edges_of n)) (at_depth 2 (one_at row)) 0) c.in_ok-reserve.ensures.same c.open_pairs.ensures.opened) c.open_pairs.ensures.below

-- its first map is changed
one_done : (g : given.Over) (c : goal.In_ok-one g) → Maps g.M.Mix.mixed c.args.context.now c.args.log.now.steps c.args.row c.replace_pair_map.new.context c.replace_pair_map.new.log.steps (set_of c.args.context.now 2 c.args.row) 1 c.in_ok-first.second (after (grows c.args.change) (set_of c.args.context.now 2 c.args.row) (set_of_entries trip_rest c.args.run.now)) 0 c.in_ok-one.one (length c.deref.result.now)
one_done g c =
    let t0 = c.args.context.now in
    let l0 = c.args.log.now.steps in
    let row = c.args.row in
    let H = set_of t0 2 row in
    let B = set_of_entries trip_rest c.args.run.now in
    let t1 = c.open_pairs.new.context in
    let l1 = c.open_pairs.new.log.steps in
    let s1 = starts g.M.Mix.mixed t0 l0 row c.in_ok-first.first c.in_ok-first.second c.in_ok-first.ensures.first c.in_ok-first.ensures.second c.in_ok-first.ensures.edges t1 l1
    (subst (λ l. (n : Node) × (node_of t0 2 row ≡ Some n) × IsLogged g.M.Mix.mixed t0 t1 l l1 (at_depth 1 (edges_of n)) (at_depth 2 (one_at row)) 0) c.in_ok-reserve.ensures.same c.open_pairs.ensures.opened) c.open_pairs.ensures.below in
    let n = c.deref.result.now in
    let t2 = c.replace_pair_map.new.context in
    let l2 = c.replace_pair_map.new.log.steps in
    changes_one g.M.Mix.mixed t0 l0 row c.args.change t1 l1 H B 0 c.in_ok-first.first H 1 c.in_ok-first.second 0 s1 (set_of_entries pair_tuple n) (λ k. ap (λ ps. slice nat_cmp (set_of_entries pair_tuple ps) 0 k) c.deref.ensures.value ∙ c.in_ok-by_first.ensures.slices k)
    t2 l2 c.in_ok-one.one (length n) c.in_ok-one.ensures.logged c.in_ok-one.ensures.changed (length n) (omega arith)

-- and its second
two_done : (g : given.Over) (c : goal.In_ok-two g) → Maps g.M.Mix.mixed c.args.context.now c.args.log.now.steps c.args.row c.replace_pair_map-2.new.context c.replace_pair_map-2.new.log.steps (after (grows c.args.change) (set_of c.args.context.now 2 c.args.row) (set_of_entries trip_rest c.args.run.now)) 0 c.in_ok-one.one (after (grows c.args.change) (set_of c.args.context.now 2 c.args.row) (set_of_entries trip_rest c.args.run.now)) 1 c.in_ok-two.two (length c.deref.result.now + length c.deref-2.result.now)
two_done g c =
    let t0 = c.args.context.now in
    let l0 = c.args.log.now.steps in
    let row = c.args.row in
    let H = set_of t0 2 row in
    let B = set_of_entries trip_rest c.args.run.now in
    let t1 = c.open_pairs.new.context in
    let l1 = c.open_pairs.new.log.steps in
    let s1 = starts g.M.Mix.mixed t0 l0 row c.in_ok-first.first c.in_ok-first.second c.in_ok-first.ensures.first c.in_ok-first.ensures.second c.in_ok-first.ensures.edges t1 l1
    (subst (λ l. (n : Node) × (node_of t0 2 row ≡ Some n) × IsLogged g.M.Mix.mixed t0 t1 l l1 (at_depth 1 (edges_of n)) (at_depth 2 (one_at row)) 0) c.in_ok-reserve.ensures.same c.open_pairs.ensures.opened) c.open_pairs.ensures.below in
    let n = c.deref.result.now in
    let t2 = c.replace_pair_map.new.context in
    let l2 = c.replace_pair_map.new.log.steps in
    let s2 = changes_one g.M.Mix.mixed t0 l0 row c.args.change t1 l1 H B 0 c.in_ok-first.first H 1 c.in_ok-first.second 0 s1 (set_of_entries pair_tuple n) (λ k. ap (λ ps. slice nat_cmp (set_of_entries pair_tuple ps) 0 k) c.deref.ensures.value ∙ c.in_ok-by_first.ensures.slices k)
    t2 l2 c.in_ok-one.one (length n) c.in_ok-one.ensures.logged c.in_ok-one.ensures.changed (length n) (omega arith) in
    let m = c.deref-2.result.now in
    let t3 = c.replace_pair_map-2.new.context in
    let l3 = c.replace_pair_map-2.new.log.steps in
    let G = after (grows c.args.change) H B in
    changes_one g.M.Mix.mixed t0 l0 row c.args.change t2 l2 H B 1 c.in_ok-first.second G 0 c.in_ok-one.one (length n) s2 (set_of_entries pair_tuple m) (λ k. ap (λ ps. slice nat_cmp (set_of_entries pair_tuple ps) 0 k) c.deref-2.ensures.value ∙ c.in_ok-by_second.ensures.slices k)
    t3 l3 c.in_ok-two.two (length m) c.in_ok-two.ensures.logged c.in_ok-two.ensures.changed (length n + length m) (omega arith)

pub changed_size-size-requires : goal.changed_size-size-requires
changed_size-size-requires g c =
    has_size c.args.change (set_of c.args.context.now 2 c.args.row) (set_of_entries trip_rest c.args.run.now) c.requires.run.change c.requires.size c.pair_figures-size.result.0 (length c.args.run.now) c.pair_figures-size.ensures.size (order_once trip_rest c.args.run.now c.requires.run.order)

pub toggled_pairs-hash-requires : goal.toggled_pairs-hash-requires
toggled_pairs-hash-requires g c =
    order_once trip_rest c.args.run.now c.requires.run.order

pub pairs_by_key-requires-clause-once : goal.pairs_by_key-requires-clause-once
pairs_by_key-requires-clause-once g c =
    order_once trip_rest c.args.run.now c.requires.run.order

pub pairs_by_key-requires-2-clause-once : goal.pairs_by_key-requires-2-clause-once
pairs_by_key-requires-2-clause-once g c =
    order_once trip_rest c.args.run.now c.requires.run.order

pub replace_pair_map-requires-clause-entries : goal.replace_pair_map-requires-clause-entries
replace_pair_map-requires-clause-entries g c =
    let t0 = c.args.context.now in
    let row = c.args.row in
    let H = set_of t0 2 row in
    let B = set_of_entries trip_rest c.args.run.now in
    let t1 = c.open_pairs.new.context in
    let s1 = opened g (goal.at.replace_pair_map-requires-clause-entries g c).After-open_pairs in
    record {
      fits = slices_fit t1 1 H 0 c.in_ok-first.first s1.one;
      order = search rules;
      change = changes_of c.args.change t1 1 H B 0 c.in_ok-first.first (set_of_entries pair_tuple c.deref.result.now) c.requires.run.change s1.one (λ k. ap (λ ps. slice nat_cmp (set_of_entries pair_tuple ps) 0 k) c.deref.ensures.value ∙ c.in_ok-by_first.ensures.slices k);
    }

pub replace_pair_map-requires-clause-held : goal.replace_pair_map-requires-clause-held
replace_pair_map-requires-clause-held g c =
    let t0 = c.args.context.now in
    let l0 = c.args.log.now.steps in
    let row = c.args.row in
    let H = set_of t0 2 row in
    let t1 = c.open_pairs.new.context in
    let l1 = c.open_pairs.new.log.steps in
    let s1 = opened g (goal.at.replace_pair_map-requires-clause-held g c).After-open_pairs in
    first_held g.M.Mix.mixed t0 l0 row t1 l1 H 0 c.in_ok-first.first H 1 c.in_ok-first.second 0 s1

pub replace_pair_map-requires-clause-room : goal.replace_pair_map-requires-clause-room
replace_pair_map-requires-clause-room g c d r =
    let s1 = opened g (goal.at.replace_pair_map-requires-clause-room g c).After-open_pairs in
    let many : length c.deref.result.now ≡ length c.args.run.now = ap length c.deref.ensures.value ∙ c.in_ok-by_first.ensures.len in
    omega (arith, c.requires.room d r, s1.logged.counts d r, many)

pub replace_pair_map-requires-2-clause-entries : goal.replace_pair_map-requires-2-clause-entries
replace_pair_map-requires-2-clause-entries g c =
    let t0 = c.args.context.now in
    let row = c.args.row in
    let H = set_of t0 2 row in
    let B = set_of_entries trip_rest c.args.run.now in
    let t2 = c.replace_pair_map.new.context in
    let s2 = one_done g (goal.at.replace_pair_map-requires-2-clause-entries g c).In_ok-one in
    record {
      fits = slices_fit t2 1 H 1 c.in_ok-first.second s2.one;
      order = search rules;
      change = changes_of c.args.change t2 1 H B 1 c.in_ok-first.second (set_of_entries pair_tuple c.deref-2.result.now) c.requires.run.change s2.one (λ k. ap (λ ps. slice nat_cmp (set_of_entries pair_tuple ps) 0 k) c.deref-2.ensures.value ∙ c.in_ok-by_second.ensures.slices k);
    }

pub replace_pair_map-requires-2-clause-held : goal.replace_pair_map-requires-2-clause-held
replace_pair_map-requires-2-clause-held g c =
    let t0 = c.args.context.now in
    let l0 = c.args.log.now.steps in
    let row = c.args.row in
    let H = set_of t0 2 row in
    let B = set_of_entries trip_rest c.args.run.now in
    let n = c.deref.result.now in
    let t2 = c.replace_pair_map.new.context in
    let l2 = c.replace_pair_map.new.log.steps in
    let s2 = one_done g (goal.at.replace_pair_map-requires-2-clause-held g c).In_ok-one in
    first_held g.M.Mix.mixed t0 l0 row t2 l2 H 1 c.in_ok-first.second (after (grows c.args.change) H B) 0 c.in_ok-one.one (length n) s2

pub replace_pair_map-requires-2-clause-room : goal.replace_pair_map-requires-2-clause-room
replace_pair_map-requires-2-clause-room g c d r =
    let n = c.deref.result.now in
    let many : length n ≡ length c.args.run.now = ap length c.deref.ensures.value ∙ c.in_ok-by_first.ensures.len in
    let s2 = one_done g (goal.at.replace_pair_map-requires-2-clause-room g c).In_ok-one in
    let more : length c.deref-2.result.now ≡ length c.args.run.now = ap length c.deref-2.ensures.value ∙ c.in_ok-by_second.ensures.len in
    omega (arith, c.requires.room d r, s2.logged.counts d r, many, more)

pub returns-in_err-one-clause-grew : goal.returns-in_err-one-clause-grew
returns-in_err-one-clause-grew g c =
    let t0 = c.args.context.now in
    let l0 = c.args.log.now.steps in
    let t1 = c.open_pairs.new.context in
    let l1 = c.open_pairs.new.log.steps in
    let s1 = opened g (goal.at.returns-in_err-one-clause-grew g c).After-open_pairs in
    on_err _ c.from_residual-in_err-one.result (grows_on g.M.Mix.mixed t0 t1 c.replace_pair_map.new.context l0 l1 c.replace_pair_map.new.log.steps s1.logged.grew c.in_err-one.ensures.grew)

pub returns-in_err-two-clause-grew : goal.returns-in_err-two-clause-grew
returns-in_err-two-clause-grew g c =
    let t0 = c.args.context.now in
    let l0 = c.args.log.now.steps in
    let t2 = c.replace_pair_map.new.context in
    let l2 = c.replace_pair_map.new.log.steps in
    let s2 = one_done g (goal.at.returns-in_err-two-clause-grew g c).In_ok-one in
    on_err _ c.from_residual-in_err-two.result (grows_on g.M.Mix.mixed t0 t2 c.replace_pair_map-2.new.context l0 l2 c.replace_pair_map-2.new.log.steps s2.logged.grew c.in_err-two.ensures.grew)

pub returns-then-size-eq0-clause-stands : goal.returns-then-size-eq0-clause-stands
returns-then-size-eq0-clause-stands g c =
    let t0 = c.args.context.now in
    let row = c.args.row in
    let H = set_of t0 2 row in
    let B = set_of_entries trip_rest c.args.run.now in
    let G = after (grows c.args.change) H B in
    let once = order_once trip_rest c.args.run.now c.requires.run.order in
    let sized : c.changed_size-size.result ≡ set.len G = c.changed_size-size.ensures ∙ size_is c.args.change H B c.requires.run.change c.pair_figures-size.result.0 (length c.args.run.now) c.pair_figures-size.ensures.size once in
    set.empty_of_len G (sym sized ∙ c.if-size-eq0.true)

pub returns-then-size-eq0-clause-logged : goal.returns-then-size-eq0-clause-logged
returns-then-size-eq0-clause-logged g c =
    let t0 = c.args.context.now in
    let row = c.args.row in
    logged_as g.M.Mix.mixed t0 t0 c.args.log.now.steps c.leave_pairs.new.log.steps (edge_hold 2 None) (edge_hold 2 (Some (ToRow row))) 0 c.in_ok-leave_pairs.ensures.logged
    (edge_hold 2 None) (at_depth 2 (one_at row)) (run_room c.args.run.now) (λ e r. refl) (at_same 2 (option_leads (Some (ToRow row))) (one_at row) (leads_once row)) (omega arith)

pub store_pairs-requires-clause-form : goal.store_pairs-requires-clause-form
store_pairs-requires-clause-form g c =
    let t0 = c.args.context.now in
    let row = c.args.row in
    let H = set_of t0 2 row in
    let B = set_of_entries trip_rest c.args.run.now in
    let t3 = c.replace_pair_map-2.new.context in
    let G = after (grows c.args.change) H B in
    let s3 = two_done g (goal.at.store_pairs-requires-clause-form g c).In_ok-two in
    let once = order_once trip_rest c.args.run.now c.requires.run.order in
    let sized : c.changed_size-size.result ≡ set.len G = c.changed_size-size.ensures ∙ size_is c.args.change H B c.requires.run.change c.pair_figures-size.result.0 (length c.args.run.now) c.pair_figures-size.ensures.size once in
    let some : 1 ≤ set.len G = let not = c.if-size-eq0.false in omega arith in
    let hashed = c.toggled_pairs-hash.ensures ∙ hash_is g.M.Mix.mixed 2 (grows c.args.change) H B c.requires.run.change c.pair_figures-size.result.1 c.pair_figures-size.ensures.hash in
    let is = c.pair_node-node.ensures (set_of t3 1) G some (parts_are g.M.Mix.mixed t0 c.is_kept.ensures c.args.change row c.requires.run.fits c.args.run.now (set_of t3 1) c.changed_size-size.result c.toggled_pairs-hash.result c.in_ok-one.one c.in_ok-two.two sized hashed t3 s3.one s3.two) in
    is.formed

pub store_pairs-requires-clause-filled : goal.store_pairs-requires-clause-filled
store_pairs-requires-clause-filled g c =
    let t0 = c.args.context.now in
    let row = c.args.row in
    let H = set_of t0 2 row in
    let B = set_of_entries trip_rest c.args.run.now in
    let t3 = c.replace_pair_map-2.new.context in
    let G = after (grows c.args.change) H B in
    let s3 = two_done g (goal.at.store_pairs-requires-clause-filled g c).In_ok-two in
    let once = order_once trip_rest c.args.run.now c.requires.run.order in
    let sized : c.changed_size-size.result ≡ set.len G = c.changed_size-size.ensures ∙ size_is c.args.change H B c.requires.run.change c.pair_figures-size.result.0 (length c.args.run.now) c.pair_figures-size.ensures.size once in
    let some : 1 ≤ set.len G = let not = c.if-size-eq0.false in omega arith in
    let hashed = c.toggled_pairs-hash.ensures ∙ hash_is g.M.Mix.mixed 2 (grows c.args.change) H B c.requires.run.change c.pair_figures-size.result.1 c.pair_figures-size.ensures.hash in
    let is = c.pair_node-node.ensures (set_of t3 1) G some (parts_are g.M.Mix.mixed t0 c.is_kept.ensures c.args.change row c.requires.run.fits c.args.run.now (set_of t3 1) c.changed_size-size.result c.toggled_pairs-hash.result c.in_ok-one.one c.in_ok-two.two sized hashed t3 s3.one s3.two) in
    subst (λ S. 1 ≤ set.len S) (sym is.stands) some

pub store_pairs-requires-clause-held : goal.store_pairs-requires-clause-held
store_pairs-requires-clause-held g c =
    let t0 = c.args.context.now in
    let l0 = c.args.log.now.steps in
    let row = c.args.row in
    let H = set_of t0 2 row in
    let B = set_of_entries trip_rest c.args.run.now in
    let n = c.deref.result.now in
    let m = c.deref-2.result.now in
    let t3 = c.replace_pair_map-2.new.context in
    let l3 = c.replace_pair_map-2.new.log.steps in
    let G = after (grows c.args.change) H B in
    let s3 = two_done g (goal.at.store_pairs-requires-clause-held g c).In_ok-two in
    let once = order_once trip_rest c.args.run.now c.requires.run.order in
    let sized : c.changed_size-size.result ≡ set.len G = c.changed_size-size.ensures ∙ size_is c.args.change H B c.requires.run.change c.pair_figures-size.result.0 (length c.args.run.now) c.pair_figures-size.ensures.size once in
    let some : 1 ≤ set.len G = let not = c.if-size-eq0.false in omega arith in
    let hashed = c.toggled_pairs-hash.ensures ∙ hash_is g.M.Mix.mixed 2 (grows c.args.change) H B c.requires.run.change c.pair_figures-size.result.1 c.pair_figures-size.ensures.hash in
    let is = c.pair_node-node.ensures (set_of t3 1) G some (parts_are g.M.Mix.mixed t0 c.is_kept.ensures c.args.change row c.requires.run.fits c.args.run.now (set_of t3 1) c.changed_size-size.result c.toggled_pairs-hash.result c.in_ok-one.one c.in_ok-two.two sized hashed t3 s3.one s3.two) in
    node_held g.M.Mix.mixed t0 l0 row t3 l3 G c.in_ok-one.one c.in_ok-two.two (length n + length m) s3 c.pair_node-node.result is

pub store_pairs-requires-clause-room : goal.store_pairs-requires-clause-room
store_pairs-requires-clause-room g c d r =
    let n = c.deref.result.now in
    let many : length n ≡ length c.args.run.now = ap length c.deref.ensures.value ∙ c.in_ok-by_first.ensures.len in
    let m = c.deref-2.result.now in
    let more : length m ≡ length c.args.run.now = ap length c.deref-2.ensures.value ∙ c.in_ok-by_second.ensures.len in
    let s3 = two_done g (goal.at.store_pairs-requires-clause-room g c).In_ok-two in
    omega (arith, c.requires.room d r, s3.logged.counts d r, many, more, c.requires.some)

pub returns-clause-stands : goal.returns-clause-stands
returns-clause-stands g c =
    let t0 = c.args.context.now in
    let row = c.args.row in
    let H = set_of t0 2 row in
    let B = set_of_entries trip_rest c.args.run.now in
    let t3 = c.replace_pair_map-2.new.context in
    let G = after (grows c.args.change) H B in
    let s3 = two_done g (goal.at.returns-clause-stands g c).In_ok-two in
    let once = order_once trip_rest c.args.run.now c.requires.run.order in
    let sized : c.changed_size-size.result ≡ set.len G = c.changed_size-size.ensures ∙ size_is c.args.change H B c.requires.run.change c.pair_figures-size.result.0 (length c.args.run.now) c.pair_figures-size.ensures.size once in
    let some : 1 ≤ set.len G = let not = c.if-size-eq0.false in omega arith in
    let hashed = c.toggled_pairs-hash.ensures ∙ hash_is g.M.Mix.mixed 2 (grows c.args.change) H B c.requires.run.change c.pair_figures-size.result.1 c.pair_figures-size.ensures.hash in
    let is = c.pair_node-node.ensures (set_of t3 1) G some (parts_are g.M.Mix.mixed t0 c.is_kept.ensures c.args.change row c.requires.run.fits c.args.run.now (set_of t3 1) c.changed_size-size.result c.toggled_pairs-hash.result c.in_ok-one.one c.in_ok-two.two sized hashed t3 s3.one s3.two) in
    subst (λ S. IfOk c.store_pairs.result (StandsAt c.store_pairs.new.context 2 S)) is.stands c.store_pairs.ensures.stands

pub returns-clause-logged : goal.returns-clause-logged
returns-clause-logged g c =
    let t0 = c.args.context.now in
    let l0 = c.args.log.now.steps in
    let row = c.args.row in
    let H = set_of t0 2 row in
    let B = set_of_entries trip_rest c.args.run.now in
    let n = c.deref.result.now in
    let many : length n ≡ length c.args.run.now = ap length c.deref.ensures.value ∙ c.in_ok-by_first.ensures.len in
    let m = c.deref-2.result.now in
    let more : length m ≡ length c.args.run.now = ap length c.deref-2.ensures.value ∙ c.in_ok-by_second.ensures.len in
    let t3 = c.replace_pair_map-2.new.context in
    let l3 = c.replace_pair_map-2.new.log.steps in
    let G = after (grows c.args.change) H B in
    let s3 = two_done g (goal.at.returns-clause-logged g c).In_ok-two in
    let once = order_once trip_rest c.args.run.now c.requires.run.order in
    let sized : c.changed_size-size.result ≡ set.len G = c.changed_size-size.ensures ∙ size_is c.args.change H B c.requires.run.change c.pair_figures-size.result.0 (length c.args.run.now) c.pair_figures-size.ensures.size once in
    let some : 1 ≤ set.len G = let not = c.if-size-eq0.false in omega arith in
    let hashed = c.toggled_pairs-hash.ensures ∙ hash_is g.M.Mix.mixed 2 (grows c.args.change) H B c.requires.run.change c.pair_figures-size.result.1 c.pair_figures-size.ensures.hash in
    let is = c.pair_node-node.ensures (set_of t3 1) G some (parts_are g.M.Mix.mixed t0 c.is_kept.ensures c.args.change row c.requires.run.fits c.args.run.now (set_of t3 1) c.changed_size-size.result c.toggled_pairs-hash.result c.in_ok-one.one c.in_ok-two.two sized hashed t3 s3.one s3.two) in
    if_ok (λ e. IsLogged g.M.Mix.mixed t3 c.store_pairs.new.context l3 c.store_pairs.new.log.steps (edge_hold 2 e) (at_depth 1 (edges_of c.pair_node-node.result)) 1)
    (λ e. IsLogged g.M.Mix.mixed t0 c.store_pairs.new.context l0 c.store_pairs.new.log.steps (edge_hold 2 e) (at_depth 2 (one_at row)) (run_room c.args.run.now)) c.store_pairs.result
    (λ e now. stored g.M.Mix.mixed t0 l0 row t3 l3 G c.in_ok-one.one c.in_ok-two.two (length n + length m) s3 c.pair_node-node.result is c.store_pairs.new.context c.store_pairs.new.log.steps e 1 now (run_room c.args.run.now) (omega (arith, many, more, c.requires.some)))
    c.store_pairs.ensures.logged

pub returns-clause-grew : goal.returns-clause-grew
returns-clause-grew g c =
    let t0 = c.args.context.now in
    let l0 = c.args.log.now.steps in
    let t3 = c.replace_pair_map-2.new.context in
    let l3 = c.replace_pair_map-2.new.log.steps in
    let s3 = two_done g (goal.at.returns-clause-grew g c).In_ok-two in
    err_then (Grows g.M.Mix.mixed t3 c.store_pairs.new.context l3 c.store_pairs.new.log.steps) (Grows g.M.Mix.mixed t0 c.store_pairs.new.context l0 c.store_pairs.new.log.steps) c.store_pairs.result
    (grows_on g.M.Mix.mixed t0 t3 c.store_pairs.new.context l0 l3 c.store_pairs.new.log.steps s3.logged.grew) c.store_pairs.ensures.grew

pub returns-clause-risen : goal.returns-clause-risen
returns-clause-risen g c =
    if_ok (λ e. HoldsRiseBy c.replace_pair_map-2.new.context c.store_pairs.new.context (edge_hold 2 e)) (λ e. HoldsRiseBy c.args.context.now c.store_pairs.new.context (edge_hold 2 e)) c.store_pairs.result
    (λ e risen d r deep. omega (arith, c.open_pairs.ensures.risen d r deep, c.in_ok-one.ensures.risen d r deep, c.in_ok-two.ensures.risen d r deep, risen d r deep))
    c.store_pairs.ensures.risen
