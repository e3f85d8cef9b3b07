use Rattle.std.proofs.Common.{◌≡◌, IfOk, ◌+◌, ◌≤◌, length, refl, subst, sym, arith, Some}
use Rattle.hypertrie_model.specs.Changes.{after}
use Rattle.trie_depth.specs.Tuples.{trip_tuple}
use Rattle.trie_node.specs.declared.node.Node.{Node}
use Rattle.trie_node.specs.declared.node.Node.TheVariants.{Full}
use Rattle.trie_node.specs.Sets.{edges_of}
use Rattle.trie_context.specs.Rows.{node_of, set_of}
use Rattle.trie_context.specs.Holds.{one_at, at_depth}
use Rattle.trie_context.specs.Roots.{root_set, root_hold}
use Rattle.change_log.specs.Laws.{grows_on}
use Rattle.change_log.specs.Log.{Grows}
use Rattle.change_log.specs.Logged.{IsLogged}
use Rattle.trie_change.specs.After.{run_room, graph_room}
use Rattle.trie_change.specs.Batches.{set_of_entries}
use Rattle.trie_change.specs.Changes.{grows}
use Rattle.trie_change.specs.FigureLaws.{has_size}
use Rattle.trie_change.specs.PairLaws.{if_ok, on_err, small_after}
use Rattle.trie_change.specs.PartLaws.{are_parts, full_form, whole_is}
use Rattle.trie_reopen.proofs.TripleTurns.{Maps, starts, changes_one, first_held, may_change, node_held, stored}
use Rattle.trie_reopen.proofs.SharedLemmas.{starts_shared, turned_by}
use Rattle.trie_reopen.proofs.Unmoved.{err_then}
use Rattle.trie_reopen.proofs.graph.reopen_triples.Given as given
use Rattle.trie_reopen.proofs.graph.reopen_triples.Goals as goal
use Rattle.trie_reopen.proofs.graph.reopen_triples.Goals.{After-open_triples, In_ok-one, In_ok-two, In_ok-three}

-- the row is taken out
opened : (g : given.Over) (c : goal.After-open_triples g) → Maps g.M.Mix.mixed c.args.context.now c.args.log.now.steps c.args.row c.open_triples.new.context c.open_triples.new.log.steps (set_of c.args.context.now 3 c.args.row) 0 c.in_ok-first.first (set_of c.args.context.now 3 c.args.row) 1 c.in_ok-first.second (set_of c.args.context.now 3 c.args.row) 2 c.in_ok-first.third 0
opened g c =
    let t0 = c.args.context.now in
    let l0 = c.args.log.now.steps in
    let row = c.args.row in
    let a = c.in_ok-first.first in
    let b = c.in_ok-first.second in
    let e = c.in_ok-first.third in
    let t1 = c.open_triples.new.context in
    let l1 = c.open_triples.new.log.steps in
    starts g.M.Mix.mixed t0 l0 row a b e c.in_ok-first.ensures.first c.in_ok-first.ensures.second c.in_ok-first.ensures.third c.in_ok-first.ensures.edges t1 l1
    (subst (λ l. (n : Node) × (node_of t0 3 row ≡ Some n) × IsLogged g.M.Mix.mixed t0 t1 l l1 (at_depth 2 (edges_of n)) (at_depth 3 (one_at row)) 0) c.in_ok-reserve.ensures.same c.open_triples.ensures.opened) c.open_triples.ensures.below

-- its first map is changed
one_done : (g : given.Over) (c : goal.In_ok-one g) → Maps g.M.Mix.mixed c.args.context.now c.args.log.now.steps c.args.row c.replace_triple_map.new.context c.replace_triple_map.new.log.steps (set_of c.args.context.now 3 c.args.row) 1 c.in_ok-first.second (set_of c.args.context.now 3 c.args.row) 2 c.in_ok-first.third (after (grows c.args.change) (set_of c.args.context.now 3 c.args.row) (set_of_entries trip_tuple c.args.batch.now)) 0 c.in_ok-one.one (run_room c.in_ok-by_first.by_first.items)
one_done g c =
    let t0 = c.args.context.now in
    let l0 = c.args.log.now.steps in
    let row = c.args.row in
    let H = set_of t0 3 row in
    let B = set_of_entries trip_tuple c.args.batch.now in
    let a = c.in_ok-first.first in
    let b = c.in_ok-first.second in
    let e = c.in_ok-first.third in
    let t1 = c.open_triples.new.context in
    let l1 = c.open_triples.new.log.steps in
    let s1 = starts g.M.Mix.mixed t0 l0 row a b e c.in_ok-first.ensures.first c.in_ok-first.ensures.second c.in_ok-first.ensures.third c.in_ok-first.ensures.edges t1 l1
    (subst (λ l. (n : Node) × (node_of t0 3 row ≡ Some n) × IsLogged g.M.Mix.mixed t0 t1 l l1 (at_depth 2 (edges_of n)) (at_depth 3 (one_at row)) 0) c.in_ok-reserve.ensures.same c.open_triples.ensures.opened) c.open_triples.ensures.below in
    let t2 = c.replace_triple_map.new.context in
    let l2 = c.replace_triple_map.new.log.steps in
    let n = run_room c.in_ok-by_first.by_first.items in
    changes_one g.M.Mix.mixed t0 l0 row c.args.change t1 l1 H B 0 a H 1 b H 2 e 0 s1 (set_of_entries trip_tuple c.in_ok-by_first.by_first.items) c.in_ok-by_first.ensures.slices
    t2 l2 c.in_ok-one.one n c.in_ok-one.ensures.logged c.in_ok-one.ensures.changed n (omega arith)

-- and its second
two_done : (g : given.Over) (c : goal.In_ok-two g) → Maps g.M.Mix.mixed c.args.context.now c.args.log.now.steps c.args.row c.replace_triple_map-2.new.context c.replace_triple_map-2.new.log.steps (set_of c.args.context.now 3 c.args.row) 2 c.in_ok-first.third (after (grows c.args.change) (set_of c.args.context.now 3 c.args.row) (set_of_entries trip_tuple c.args.batch.now)) 0 c.in_ok-one.one (after (grows c.args.change) (set_of c.args.context.now 3 c.args.row) (set_of_entries trip_tuple c.args.batch.now)) 1 c.in_ok-two.two (run_room c.in_ok-by_first.by_first.items + run_room c.in_ok-by_second.by_second.items)
two_done g c =
    let t0 = c.args.context.now in
    let l0 = c.args.log.now.steps in
    let row = c.args.row in
    let H = set_of t0 3 row in
    let B = set_of_entries trip_tuple c.args.batch.now in
    let G = after (grows c.args.change) H B in
    let a = c.in_ok-first.first in
    let b = c.in_ok-first.second in
    let e = c.in_ok-first.third in
    let t1 = c.open_triples.new.context in
    let l1 = c.open_triples.new.log.steps in
    let s1 = starts g.M.Mix.mixed t0 l0 row a b e c.in_ok-first.ensures.first c.in_ok-first.ensures.second c.in_ok-first.ensures.third c.in_ok-first.ensures.edges t1 l1
    (subst (λ l. (n : Node) × (node_of t0 3 row ≡ Some n) × IsLogged g.M.Mix.mixed t0 t1 l l1 (at_depth 2 (edges_of n)) (at_depth 3 (one_at row)) 0) c.in_ok-reserve.ensures.same c.open_triples.ensures.opened) c.open_triples.ensures.below in
    let t2 = c.replace_triple_map.new.context in
    let l2 = c.replace_triple_map.new.log.steps in
    let n = run_room c.in_ok-by_first.by_first.items in
    let s2 = changes_one g.M.Mix.mixed t0 l0 row c.args.change t1 l1 H B 0 a H 1 b H 2 e 0 s1 (set_of_entries trip_tuple c.in_ok-by_first.by_first.items) c.in_ok-by_first.ensures.slices
    t2 l2 c.in_ok-one.one n c.in_ok-one.ensures.logged c.in_ok-one.ensures.changed n (omega arith) in
    let t3 = c.replace_triple_map-2.new.context in
    let l3 = c.replace_triple_map-2.new.log.steps in
    let m = run_room c.in_ok-by_second.by_second.items in
    changes_one g.M.Mix.mixed t0 l0 row c.args.change t2 l2 H B 1 b H 2 e G 0 c.in_ok-one.one n s2 (set_of_entries trip_tuple c.in_ok-by_second.by_second.items) c.in_ok-by_second.ensures.slices
    t3 l3 c.in_ok-two.two m c.in_ok-two.ensures.logged c.in_ok-two.ensures.changed (n + m) (omega arith)

-- and its third
three_done : (g : given.Over) (c : goal.In_ok-three g) → Maps g.M.Mix.mixed c.args.context.now c.args.log.now.steps c.args.row c.replace_triple_map-3.new.context c.replace_triple_map-3.new.log.steps (after (grows c.args.change) (set_of c.args.context.now 3 c.args.row) (set_of_entries trip_tuple c.args.batch.now)) 0 c.in_ok-one.one (after (grows c.args.change) (set_of c.args.context.now 3 c.args.row) (set_of_entries trip_tuple c.args.batch.now)) 1 c.in_ok-two.two (after (grows c.args.change) (set_of c.args.context.now 3 c.args.row) (set_of_entries trip_tuple c.args.batch.now)) 2 c.in_ok-three.three (run_room c.in_ok-by_first.by_first.items + run_room c.in_ok-by_second.by_second.items + run_room c.in_ok-by_third.by_third.items)
three_done g c =
    let t0 = c.args.context.now in
    let l0 = c.args.log.now.steps in
    let row = c.args.row in
    let H = set_of t0 3 row in
    let B = set_of_entries trip_tuple c.args.batch.now in
    let G = after (grows c.args.change) H B in
    let a = c.in_ok-first.first in
    let b = c.in_ok-first.second in
    let e = c.in_ok-first.third in
    let t1 = c.open_triples.new.context in
    let l1 = c.open_triples.new.log.steps in
    let s1 = starts g.M.Mix.mixed t0 l0 row a b e c.in_ok-first.ensures.first c.in_ok-first.ensures.second c.in_ok-first.ensures.third c.in_ok-first.ensures.edges t1 l1
    (subst (λ l. (n : Node) × (node_of t0 3 row ≡ Some n) × IsLogged g.M.Mix.mixed t0 t1 l l1 (at_depth 2 (edges_of n)) (at_depth 3 (one_at row)) 0) c.in_ok-reserve.ensures.same c.open_triples.ensures.opened) c.open_triples.ensures.below in
    let t2 = c.replace_triple_map.new.context in
    let l2 = c.replace_triple_map.new.log.steps in
    let n = run_room c.in_ok-by_first.by_first.items in
    let s2 = changes_one g.M.Mix.mixed t0 l0 row c.args.change t1 l1 H B 0 a H 1 b H 2 e 0 s1 (set_of_entries trip_tuple c.in_ok-by_first.by_first.items) c.in_ok-by_first.ensures.slices
    t2 l2 c.in_ok-one.one n c.in_ok-one.ensures.logged c.in_ok-one.ensures.changed n (omega arith) in
    let t3 = c.replace_triple_map-2.new.context in
    let l3 = c.replace_triple_map-2.new.log.steps in
    let m = run_room c.in_ok-by_second.by_second.items in
    let s3 = changes_one g.M.Mix.mixed t0 l0 row c.args.change t2 l2 H B 1 b H 2 e G 0 c.in_ok-one.one n s2 (set_of_entries trip_tuple c.in_ok-by_second.by_second.items) c.in_ok-by_second.ensures.slices
    t3 l3 c.in_ok-two.two m c.in_ok-two.ensures.logged c.in_ok-two.ensures.changed (n + m) (omega arith) in
    let t4 = c.replace_triple_map-3.new.context in
    let l4 = c.replace_triple_map-3.new.log.steps in
    let k = run_room c.in_ok-by_third.by_third.items in
    changes_one g.M.Mix.mixed t0 l0 row c.args.change t3 l3 H B 2 e G 0 c.in_ok-one.one G 1 c.in_ok-two.two (n + m) s3 (set_of_entries trip_tuple c.in_ok-by_third.by_third.items) c.in_ok-by_third.ensures.slices
    t4 l4 c.in_ok-three.three k c.in_ok-three.ensures.logged c.in_ok-three.ensures.changed (n + m + k) (omega arith)

pub changed_size-size-requires : goal.changed_size-size-requires
changed_size-size-requires g c =
    has_size c.args.change (set_of c.args.context.now 3 c.args.row) (set_of_entries trip_tuple c.args.batch.now) c.requires.batch.change c.requires.batch.size c.triple_figures-size.result.0 (length c.args.batch.now) c.triple_figures-size.ensures.size c.requires.batch.once

pub replace_triple_map-requires-clause-entries : goal.replace_triple_map-requires-clause-entries
replace_triple_map-requires-clause-entries g c =
    let t0 = c.args.context.now in
    let l0 = c.args.log.now.steps in
    let row = c.args.row in
    let H = set_of t0 3 row in
    let B = set_of_entries trip_tuple c.args.batch.now in
    let a = c.in_ok-first.first in
    let b = c.in_ok-first.second in
    let e = c.in_ok-first.third in
    let t1 = c.open_triples.new.context in
    let l1 = c.open_triples.new.log.steps in
    let s1 = opened g (goal.at.replace_triple_map-requires-clause-entries g c).After-open_triples in
    may_change g.M.Mix.mixed t0 l0 row c.args.change t1 l1 H B 0 a H 1 b H 2 e 0 s1 c.in_ok-by_first.by_first.items c.in_ok-by_first.ensures.slices c.in_ok-by_first.ensures.sorted c.requires.batch.change

pub replace_triple_map-requires-clause-size : goal.replace_triple_map-requires-clause-size
replace_triple_map-requires-clause-size g c =
    let t0 = c.args.context.now in
    let row = c.args.row in
    let H = set_of t0 3 row in
    let B = set_of_entries trip_tuple c.args.batch.now in
    let a = c.in_ok-first.first in
    let t1 = c.open_triples.new.context in
    let s1 = opened g (goal.at.replace_triple_map-requires-clause-size g c).After-open_triples in
    small_after c.args.change t1 2 H B 0 a (set_of_entries trip_tuple c.in_ok-by_first.by_first.items) s1.one c.in_ok-by_first.ensures.slices c.requires.batch.size

pub replace_triple_map-requires-clause-held : goal.replace_triple_map-requires-clause-held
replace_triple_map-requires-clause-held g c =
    let t0 = c.args.context.now in
    let l0 = c.args.log.now.steps in
    let row = c.args.row in
    let H = set_of t0 3 row in
    let B = set_of_entries trip_tuple c.args.batch.now in
    let a = c.in_ok-first.first in
    let b = c.in_ok-first.second in
    let e = c.in_ok-first.third in
    let t1 = c.open_triples.new.context in
    let l1 = c.open_triples.new.log.steps in
    let s1 = opened g (goal.at.replace_triple_map-requires-clause-held g c).After-open_triples in
    first_held g.M.Mix.mixed t0 l0 row c.args.change t1 l1 H B 0 a H 1 b H 2 e 0 s1

pub replace_triple_map-requires-clause-room : goal.replace_triple_map-requires-clause-room
replace_triple_map-requires-clause-room g c d r =
    let s1 = opened g (goal.at.replace_triple_map-requires-clause-room g c).After-open_triples in
    let many0 : length c.in_ok-by_first.by_first.items ≡ length c.args.batch.now = c.in_ok-by_first.ensures.len in
    omega (arith, c.requires.room d r, s1.logged.counts d r, many0)

pub returns-in_err-by_first-clause-grew : goal.returns-in_err-by_first-clause-grew
returns-in_err-by_first-clause-grew g c =
    let s1 = opened g (goal.at.returns-in_err-by_first-clause-grew g c).After-open_triples in
    on_err _ c.from_residual-in_err-by_first.result s1.logged.grew

pub returns-in_err-one-clause-grew : goal.returns-in_err-one-clause-grew
returns-in_err-one-clause-grew g c =
    let t0 = c.args.context.now in
    let l0 = c.args.log.now.steps in
    let t1 = c.open_triples.new.context in
    let l1 = c.open_triples.new.log.steps in
    let s1 = opened g (goal.at.returns-in_err-one-clause-grew g c).After-open_triples in
    on_err _ c.from_residual-in_err-one.result (grows_on g.M.Mix.mixed t0 t1 c.replace_triple_map.new.context l0 l1 c.replace_triple_map.new.log.steps s1.logged.grew c.in_err-one.ensures.grew)

pub replace_triple_map-requires-2-clause-entries : goal.replace_triple_map-requires-2-clause-entries
replace_triple_map-requires-2-clause-entries g c =
    let t0 = c.args.context.now in
    let l0 = c.args.log.now.steps in
    let row = c.args.row in
    let H = set_of t0 3 row in
    let B = set_of_entries trip_tuple c.args.batch.now in
    let G = after (grows c.args.change) H B in
    let b = c.in_ok-first.second in
    let e = c.in_ok-first.third in
    let t2 = c.replace_triple_map.new.context in
    let l2 = c.replace_triple_map.new.log.steps in
    let n = run_room c.in_ok-by_first.by_first.items in
    let s2 = one_done g (goal.at.replace_triple_map-requires-2-clause-entries g c).In_ok-one in
    may_change g.M.Mix.mixed t0 l0 row c.args.change t2 l2 H B 1 b H 2 e G 0 c.in_ok-one.one n s2 c.in_ok-by_second.by_second.items c.in_ok-by_second.ensures.slices c.in_ok-by_second.ensures.sorted c.requires.batch.change

pub replace_triple_map-requires-2-clause-size : goal.replace_triple_map-requires-2-clause-size
replace_triple_map-requires-2-clause-size g c =
    let t0 = c.args.context.now in
    let row = c.args.row in
    let H = set_of t0 3 row in
    let B = set_of_entries trip_tuple c.args.batch.now in
    let b = c.in_ok-first.second in
    let t2 = c.replace_triple_map.new.context in
    let s2 = one_done g (goal.at.replace_triple_map-requires-2-clause-size g c).In_ok-one in
    small_after c.args.change t2 2 H B 1 b (set_of_entries trip_tuple c.in_ok-by_second.by_second.items) s2.one c.in_ok-by_second.ensures.slices c.requires.batch.size

pub replace_triple_map-requires-2-clause-held : goal.replace_triple_map-requires-2-clause-held
replace_triple_map-requires-2-clause-held g c =
    let t0 = c.args.context.now in
    let l0 = c.args.log.now.steps in
    let row = c.args.row in
    let H = set_of t0 3 row in
    let B = set_of_entries trip_tuple c.args.batch.now in
    let G = after (grows c.args.change) H B in
    let b = c.in_ok-first.second in
    let e = c.in_ok-first.third in
    let t2 = c.replace_triple_map.new.context in
    let l2 = c.replace_triple_map.new.log.steps in
    let n = run_room c.in_ok-by_first.by_first.items in
    let s2 = one_done g (goal.at.replace_triple_map-requires-2-clause-held g c).In_ok-one in
    first_held g.M.Mix.mixed t0 l0 row c.args.change t2 l2 H B 1 b H 2 e G 0 c.in_ok-one.one n s2

pub replace_triple_map-requires-2-clause-room : goal.replace_triple_map-requires-2-clause-room
replace_triple_map-requires-2-clause-room g c d r =
    let s2 = one_done g (goal.at.replace_triple_map-requires-2-clause-room g c).In_ok-one in
    let many0 : length c.in_ok-by_first.by_first.items ≡ length c.args.batch.now = c.in_ok-by_first.ensures.len in
    let many1 : length c.in_ok-by_second.by_second.items ≡ length c.args.batch.now = c.in_ok-by_second.ensures.len in
    omega (arith, c.requires.room d r, s2.logged.counts d r, many0, many1)

pub returns-in_err-by_second-clause-grew : goal.returns-in_err-by_second-clause-grew
returns-in_err-by_second-clause-grew g c =
    let s2 = one_done g (goal.at.returns-in_err-by_second-clause-grew g c).In_ok-one in
    on_err _ c.from_residual-in_err-by_second.result s2.logged.grew

pub returns-in_err-two-clause-grew : goal.returns-in_err-two-clause-grew
returns-in_err-two-clause-grew g c =
    let t0 = c.args.context.now in
    let l0 = c.args.log.now.steps in
    let t2 = c.replace_triple_map.new.context in
    let l2 = c.replace_triple_map.new.log.steps in
    let s2 = one_done g (goal.at.returns-in_err-two-clause-grew g c).In_ok-one in
    on_err _ c.from_residual-in_err-two.result (grows_on g.M.Mix.mixed t0 t2 c.replace_triple_map-2.new.context l0 l2 c.replace_triple_map-2.new.log.steps s2.logged.grew c.in_err-two.ensures.grew)

pub replace_triple_map-requires-3-clause-entries : goal.replace_triple_map-requires-3-clause-entries
replace_triple_map-requires-3-clause-entries g c =
    let t0 = c.args.context.now in
    let l0 = c.args.log.now.steps in
    let row = c.args.row in
    let H = set_of t0 3 row in
    let B = set_of_entries trip_tuple c.args.batch.now in
    let G = after (grows c.args.change) H B in
    let e = c.in_ok-first.third in
    let n = run_room c.in_ok-by_first.by_first.items in
    let t3 = c.replace_triple_map-2.new.context in
    let l3 = c.replace_triple_map-2.new.log.steps in
    let m = run_room c.in_ok-by_second.by_second.items in
    let s3 = two_done g (goal.at.replace_triple_map-requires-3-clause-entries g c).In_ok-two in
    may_change g.M.Mix.mixed t0 l0 row c.args.change t3 l3 H B 2 e G 0 c.in_ok-one.one G 1 c.in_ok-two.two (n + m) s3 c.in_ok-by_third.by_third.items c.in_ok-by_third.ensures.slices c.in_ok-by_third.ensures.sorted c.requires.batch.change

pub replace_triple_map-requires-3-clause-size : goal.replace_triple_map-requires-3-clause-size
replace_triple_map-requires-3-clause-size g c =
    let t0 = c.args.context.now in
    let row = c.args.row in
    let H = set_of t0 3 row in
    let B = set_of_entries trip_tuple c.args.batch.now in
    let e = c.in_ok-first.third in
    let t3 = c.replace_triple_map-2.new.context in
    let s3 = two_done g (goal.at.replace_triple_map-requires-3-clause-size g c).In_ok-two in
    small_after c.args.change t3 2 H B 2 e (set_of_entries trip_tuple c.in_ok-by_third.by_third.items) s3.one c.in_ok-by_third.ensures.slices c.requires.batch.size

pub replace_triple_map-requires-3-clause-held : goal.replace_triple_map-requires-3-clause-held
replace_triple_map-requires-3-clause-held g c =
    let t0 = c.args.context.now in
    let l0 = c.args.log.now.steps in
    let row = c.args.row in
    let H = set_of t0 3 row in
    let B = set_of_entries trip_tuple c.args.batch.now in
    let G = after (grows c.args.change) H B in
    let e = c.in_ok-first.third in
    let n = run_room c.in_ok-by_first.by_first.items in
    let t3 = c.replace_triple_map-2.new.context in
    let l3 = c.replace_triple_map-2.new.log.steps in
    let m = run_room c.in_ok-by_second.by_second.items in
    let s3 = two_done g (goal.at.replace_triple_map-requires-3-clause-held g c).In_ok-two in
    first_held g.M.Mix.mixed t0 l0 row c.args.change t3 l3 H B 2 e G 0 c.in_ok-one.one G 1 c.in_ok-two.two (n + m) s3

pub replace_triple_map-requires-3-clause-room : goal.replace_triple_map-requires-3-clause-room
replace_triple_map-requires-3-clause-room g c d r =
    let s3 = two_done g (goal.at.replace_triple_map-requires-3-clause-room g c).In_ok-two in
    let many0 : length c.in_ok-by_first.by_first.items ≡ length c.args.batch.now = c.in_ok-by_first.ensures.len in
    let many1 : length c.in_ok-by_second.by_second.items ≡ length c.args.batch.now = c.in_ok-by_second.ensures.len in
    let many2 : length c.in_ok-by_third.by_third.items ≡ length c.args.batch.now = c.in_ok-by_third.ensures.len in
    omega (arith, c.requires.room d r, s3.logged.counts d r, many0, many1, many2)

pub returns-in_err-by_third-clause-grew : goal.returns-in_err-by_third-clause-grew
returns-in_err-by_third-clause-grew g c =
    let s3 = two_done g (goal.at.returns-in_err-by_third-clause-grew g c).In_ok-two in
    on_err _ c.from_residual-in_err-by_third.result s3.logged.grew

pub returns-in_err-three-clause-grew : goal.returns-in_err-three-clause-grew
returns-in_err-three-clause-grew g c =
    let t0 = c.args.context.now in
    let l0 = c.args.log.now.steps in
    let t3 = c.replace_triple_map-2.new.context in
    let l3 = c.replace_triple_map-2.new.log.steps in
    let s3 = two_done g (goal.at.returns-in_err-three-clause-grew g c).In_ok-two in
    on_err _ c.from_residual-in_err-three.result (grows_on g.M.Mix.mixed t0 t3 c.replace_triple_map-3.new.context l0 l3 c.replace_triple_map-3.new.log.steps s3.logged.grew c.in_err-three.ensures.grew)

pub store_triples-requires-clause-form : goal.store_triples-requires-clause-form
store_triples-requires-clause-form g c =
    let row = c.args.row in
    let t4 = c.replace_triple_map-3.new.context in
    let s4 = three_done g (goal.at.store_triples-requires-clause-form g c).In_ok-three in
    let parts = are_parts c.is_kept.ensures c.args.change (Some row) c.args.batch.now c.requires.batch.once c.requires.batch.change t4 c.triple_figures-size.result.0 c.triple_figures-size.result.1 c.changed_size-size.result c.toggled_triples-hash.result c.in_ok-one.one c.in_ok-two.two c.in_ok-three.three
    c.triple_figures-size.ensures.size c.triple_figures-size.ensures.hash c.changed_size-size.ensures c.toggled_triples-hash.ensures s4.one s4.two s4.three in
    full_form t4 parts (subst (λ s. 2 ≤ s) (sym parts.sized) c.requires.left)

pub store_triples-requires-clause-held : goal.store_triples-requires-clause-held
store_triples-requires-clause-held g c =
    let t0 = c.args.context.now in
    let l0 = c.args.log.now.steps in
    let row = c.args.row in
    let H = set_of t0 3 row in
    let B = set_of_entries trip_tuple c.args.batch.now in
    let G = after (grows c.args.change) H B in
    let n = run_room c.in_ok-by_first.by_first.items in
    let m = run_room c.in_ok-by_second.by_second.items in
    let t4 = c.replace_triple_map-3.new.context in
    let l4 = c.replace_triple_map-3.new.log.steps in
    let k = run_room c.in_ok-by_third.by_third.items in
    let s4 = three_done g (goal.at.store_triples-requires-clause-held g c).In_ok-three in
    let node = Full c.changed_size-size.result c.toggled_triples-hash.result c.in_ok-one.one c.in_ok-two.two c.in_ok-three.three in
    node_held g.M.Mix.mixed t0 l0 row t4 l4 G c.in_ok-one.one c.in_ok-two.two c.in_ok-three.three (n + m + k) s4 node (λ r. refl)

pub store_triples-requires-clause-room : goal.store_triples-requires-clause-room
store_triples-requires-clause-room g c d r =
    let s4 = three_done g (goal.at.store_triples-requires-clause-room g c).In_ok-three in
    let many0 : length c.in_ok-by_first.by_first.items ≡ length c.args.batch.now = c.in_ok-by_first.ensures.len in
    let many1 : length c.in_ok-by_second.by_second.items ≡ length c.args.batch.now = c.in_ok-by_second.ensures.len in
    let many2 : length c.in_ok-by_third.by_third.items ≡ length c.args.batch.now = c.in_ok-by_third.ensures.len in
    omega (arith, c.requires.room d r, s4.logged.counts d r, many0, many1, many2)

pub returns-clause-set : goal.returns-clause-set
returns-clause-set g c =
    let row = c.args.row in
    let t4 = c.replace_triple_map-3.new.context in
    let s4 = three_done g (goal.at.returns-clause-set g c).In_ok-three in
    let parts = are_parts c.is_kept.ensures c.args.change (Some row) c.args.batch.now c.requires.batch.once c.requires.batch.change t4 c.triple_figures-size.result.0 c.triple_figures-size.result.1 c.changed_size-size.result c.toggled_triples-hash.result c.in_ok-one.one c.in_ok-two.two c.in_ok-three.three
    c.triple_figures-size.ensures.size c.triple_figures-size.ensures.hash c.changed_size-size.ensures c.toggled_triples-hash.ensures s4.one s4.two s4.three in
    subst (λ S. IfOk c.store_triples.result (λ root. root_set c.store_triples.new.context root ≡ S)) (whole_is t4 parts) c.store_triples.ensures.set

pub returns-clause-logged : goal.returns-clause-logged
returns-clause-logged g c =
    let t0 = c.args.context.now in
    let l0 = c.args.log.now.steps in
    let row = c.args.row in
    let H = set_of t0 3 row in
    let B = set_of_entries trip_tuple c.args.batch.now in
    let G = after (grows c.args.change) H B in
    let n = run_room c.in_ok-by_first.by_first.items in
    let m = run_room c.in_ok-by_second.by_second.items in
    let t4 = c.replace_triple_map-3.new.context in
    let l4 = c.replace_triple_map-3.new.log.steps in
    let k = run_room c.in_ok-by_third.by_third.items in
    let s4 = three_done g (goal.at.returns-clause-logged g c).In_ok-three in
    let many0 : length c.in_ok-by_first.by_first.items ≡ length c.args.batch.now = c.in_ok-by_first.ensures.len in
    let many1 : length c.in_ok-by_second.by_second.items ≡ length c.args.batch.now = c.in_ok-by_second.ensures.len in
    let many2 : length c.in_ok-by_third.by_third.items ≡ length c.args.batch.now = c.in_ok-by_third.ensures.len in
    let node = Full c.changed_size-size.result c.toggled_triples-hash.result c.in_ok-one.one c.in_ok-two.two c.in_ok-three.three in
    if_ok (λ root. IsLogged g.M.Mix.mixed t4 c.store_triples.new.context l4 c.store_triples.new.log.steps (root_hold root) (at_depth 2 (edges_of node)) 1)
    (λ root. IsLogged g.M.Mix.mixed t0 c.store_triples.new.context l0 c.store_triples.new.log.steps (root_hold root) (at_depth 3 (one_at row)) (graph_room c.args.batch.now)) c.store_triples.result
    (λ root now. stored g.M.Mix.mixed t0 l0 row t4 l4 G c.in_ok-one.one c.in_ok-two.two c.in_ok-three.three (n + m + k) s4 node (λ r. refl) c.store_triples.new.context c.store_triples.new.log.steps root 1 now (graph_room c.args.batch.now) (omega (arith, many0, many1, many2)))
    c.store_triples.ensures.logged

pub returns-clause-grew : goal.returns-clause-grew
returns-clause-grew g c =
    let t0 = c.args.context.now in
    let l0 = c.args.log.now.steps in
    let t4 = c.replace_triple_map-3.new.context in
    let l4 = c.replace_triple_map-3.new.log.steps in
    let s4 = three_done g (goal.at.returns-clause-grew g c).In_ok-three in
    err_then (Grows g.M.Mix.mixed t4 c.store_triples.new.context l4 c.store_triples.new.log.steps) (Grows g.M.Mix.mixed t0 c.store_triples.new.context l0 c.store_triples.new.log.steps) c.store_triples.result
    (grows_on g.M.Mix.mixed t0 t4 c.store_triples.new.context l0 l4 c.store_triples.new.log.steps s4.logged.grew) c.store_triples.ensures.grew

pub returns-in_err-one-clause-retained : goal.returns-in_err-one-clause-retained
returns-in_err-one-clause-retained g c only =
    let t0 = c.args.context.now in
    let row = c.args.row in
    let H = set_of t0 3 row in
    let B = set_of_entries trip_tuple c.args.batch.now in
    let G = after (grows c.args.change) H B in
    let a = c.in_ok-first.first in
    let t1 = c.open_triples.new.context in
    let s1 = opened g (goal.at.returns-in_err-one-clause-retained g c).After-open_triples in
    let turned1 = turned_by c.args.change H B 0 (omega arith) t1 a c.in_ok-by_first.by_first.items s1.one c.in_ok-by_first.ensures.slices in
    let node = c.open_triples.ensures.opened in
    let shared1 = starts_shared g.M.Mix.mixed t0 c.is_kept.ensures row node.0 node.1 G t1 only (c.open_triples.ensures.holds node.0 node.1) c.open_triples.ensures.below in
    let few1 = c.replace_triple_map.ensures.retained H G 0 turned1 shared1 in
    omega (arith, few1, c.in_ok-by_first.ensures.len)

pub returns-in_err-by_second-clause-retained : goal.returns-in_err-by_second-clause-retained
returns-in_err-by_second-clause-retained g c only =
    let t0 = c.args.context.now in
    let row = c.args.row in
    let H = set_of t0 3 row in
    let B = set_of_entries trip_tuple c.args.batch.now in
    let G = after (grows c.args.change) H B in
    let a = c.in_ok-first.first in
    let t1 = c.open_triples.new.context in
    let s1 = opened g (goal.at.returns-in_err-by_second-clause-retained g c).After-open_triples in
    let turned1 = turned_by c.args.change H B 0 (omega arith) t1 a c.in_ok-by_first.by_first.items s1.one c.in_ok-by_first.ensures.slices in
    let node = c.open_triples.ensures.opened in
    let shared1 = starts_shared g.M.Mix.mixed t0 c.is_kept.ensures row node.0 node.1 G t1 only (c.open_triples.ensures.holds node.0 node.1) c.open_triples.ensures.below in
    let few1 = c.replace_triple_map.ensures.retained H G 0 turned1 shared1 in
    omega (arith, few1, c.in_ok-by_first.ensures.len)

pub returns-in_err-two-clause-retained : goal.returns-in_err-two-clause-retained
returns-in_err-two-clause-retained g c only =
    let t0 = c.args.context.now in
    let row = c.args.row in
    let H = set_of t0 3 row in
    let B = set_of_entries trip_tuple c.args.batch.now in
    let G = after (grows c.args.change) H B in
    let a = c.in_ok-first.first in
    let b = c.in_ok-first.second in
    let t1 = c.open_triples.new.context in
    let s1 = opened g (goal.at.returns-in_err-two-clause-retained g c).After-open_triples in
    let t2 = c.replace_triple_map.new.context in
    let s2 = one_done g (goal.at.returns-in_err-two-clause-retained g c).In_ok-one in
    let turned1 = turned_by c.args.change H B 0 (omega arith) t1 a c.in_ok-by_first.by_first.items s1.one c.in_ok-by_first.ensures.slices in
    let node = c.open_triples.ensures.opened in
    let shared1 = starts_shared g.M.Mix.mixed t0 c.is_kept.ensures row node.0 node.1 G t1 only (c.open_triples.ensures.holds node.0 node.1) c.open_triples.ensures.below in
    let few1 = c.replace_triple_map.ensures.retained H G 0 turned1 shared1 in
    let turned2 = turned_by c.args.change H B 1 (omega arith) t2 b c.in_ok-by_second.by_second.items s2.one c.in_ok-by_second.ensures.slices in
    let shared2 = c.in_ok-one.ensures.shared H G 0 turned1 shared1 in
    let few2 = c.replace_triple_map-2.ensures.retained H G 1 turned2 shared2 in
    omega (arith, few1, few2, c.in_ok-by_first.ensures.len, c.in_ok-by_second.ensures.len)

pub returns-in_err-by_third-clause-retained : goal.returns-in_err-by_third-clause-retained
returns-in_err-by_third-clause-retained g c only =
    let t0 = c.args.context.now in
    let row = c.args.row in
    let H = set_of t0 3 row in
    let B = set_of_entries trip_tuple c.args.batch.now in
    let G = after (grows c.args.change) H B in
    let a = c.in_ok-first.first in
    let b = c.in_ok-first.second in
    let t1 = c.open_triples.new.context in
    let s1 = opened g (goal.at.returns-in_err-by_third-clause-retained g c).After-open_triples in
    let t2 = c.replace_triple_map.new.context in
    let s2 = one_done g (goal.at.returns-in_err-by_third-clause-retained g c).In_ok-one in
    let turned1 = turned_by c.args.change H B 0 (omega arith) t1 a c.in_ok-by_first.by_first.items s1.one c.in_ok-by_first.ensures.slices in
    let node = c.open_triples.ensures.opened in
    let shared1 = starts_shared g.M.Mix.mixed t0 c.is_kept.ensures row node.0 node.1 G t1 only (c.open_triples.ensures.holds node.0 node.1) c.open_triples.ensures.below in
    let few1 = c.replace_triple_map.ensures.retained H G 0 turned1 shared1 in
    let turned2 = turned_by c.args.change H B 1 (omega arith) t2 b c.in_ok-by_second.by_second.items s2.one c.in_ok-by_second.ensures.slices in
    let shared2 = c.in_ok-one.ensures.shared H G 0 turned1 shared1 in
    let few2 = c.replace_triple_map-2.ensures.retained H G 1 turned2 shared2 in
    omega (arith, few1, few2, c.in_ok-by_first.ensures.len, c.in_ok-by_second.ensures.len)

pub returns-in_err-three-clause-retained : goal.returns-in_err-three-clause-retained
returns-in_err-three-clause-retained g c only =
    let t0 = c.args.context.now in
    let row = c.args.row in
    let H = set_of t0 3 row in
    let B = set_of_entries trip_tuple c.args.batch.now in
    let G = after (grows c.args.change) H B in
    let a = c.in_ok-first.first in
    let b = c.in_ok-first.second in
    let e = c.in_ok-first.third in
    let t1 = c.open_triples.new.context in
    let s1 = opened g (goal.at.returns-in_err-three-clause-retained g c).After-open_triples in
    let t2 = c.replace_triple_map.new.context in
    let s2 = one_done g (goal.at.returns-in_err-three-clause-retained g c).In_ok-one in
    let t3 = c.replace_triple_map-2.new.context in
    let s3 = two_done g (goal.at.returns-in_err-three-clause-retained g c).In_ok-two in
    let turned1 = turned_by c.args.change H B 0 (omega arith) t1 a c.in_ok-by_first.by_first.items s1.one c.in_ok-by_first.ensures.slices in
    let node = c.open_triples.ensures.opened in
    let shared1 = starts_shared g.M.Mix.mixed t0 c.is_kept.ensures row node.0 node.1 G t1 only (c.open_triples.ensures.holds node.0 node.1) c.open_triples.ensures.below in
    let few1 = c.replace_triple_map.ensures.retained H G 0 turned1 shared1 in
    let turned2 = turned_by c.args.change H B 1 (omega arith) t2 b c.in_ok-by_second.by_second.items s2.one c.in_ok-by_second.ensures.slices in
    let shared2 = c.in_ok-one.ensures.shared H G 0 turned1 shared1 in
    let few2 = c.replace_triple_map-2.ensures.retained H G 1 turned2 shared2 in
    let turned3 = turned_by c.args.change H B 2 (omega arith) t3 e c.in_ok-by_third.by_third.items s3.one c.in_ok-by_third.ensures.slices in
    let shared3 = c.in_ok-two.ensures.shared H G 1 turned2 shared2 in
    let few3 = c.replace_triple_map-3.ensures.retained H G 2 turned3 shared3 in
    omega (arith, few1, few2, few3, c.in_ok-by_first.ensures.len, c.in_ok-by_second.ensures.len, c.in_ok-by_third.ensures.len)

pub returns-clause-retained : goal.returns-clause-retained
returns-clause-retained g c only =
    let t0 = c.args.context.now in
    let row = c.args.row in
    let H = set_of t0 3 row in
    let B = set_of_entries trip_tuple c.args.batch.now in
    let G = after (grows c.args.change) H B in
    let a = c.in_ok-first.first in
    let b = c.in_ok-first.second in
    let e = c.in_ok-first.third in
    let t1 = c.open_triples.new.context in
    let s1 = opened g (goal.at.returns-clause-retained g c).After-open_triples in
    let t2 = c.replace_triple_map.new.context in
    let s2 = one_done g (goal.at.returns-clause-retained g c).In_ok-one in
    let t3 = c.replace_triple_map-2.new.context in
    let s3 = two_done g (goal.at.returns-clause-retained g c).In_ok-two in
    let turned1 = turned_by c.args.change H B 0 (omega arith) t1 a c.in_ok-by_first.by_first.items s1.one c.in_ok-by_first.ensures.slices in
    let node = c.open_triples.ensures.opened in
    let shared1 = starts_shared g.M.Mix.mixed t0 c.is_kept.ensures row node.0 node.1 G t1 only (c.open_triples.ensures.holds node.0 node.1) c.open_triples.ensures.below in
    let few1 = c.replace_triple_map.ensures.retained H G 0 turned1 shared1 in
    let turned2 = turned_by c.args.change H B 1 (omega arith) t2 b c.in_ok-by_second.by_second.items s2.one c.in_ok-by_second.ensures.slices in
    let shared2 = c.in_ok-one.ensures.shared H G 0 turned1 shared1 in
    let few2 = c.replace_triple_map-2.ensures.retained H G 1 turned2 shared2 in
    let turned3 = turned_by c.args.change H B 2 (omega arith) t3 e c.in_ok-by_third.by_third.items s3.one c.in_ok-by_third.ensures.slices in
    let shared3 = c.in_ok-two.ensures.shared H G 1 turned2 shared2 in
    let few3 = c.replace_triple_map-3.ensures.retained H G 2 turned3 shared3 in
    omega (arith, few1, few2, few3, c.in_ok-by_first.ensures.len, c.in_ok-by_second.ensures.len, c.in_ok-by_third.ensures.len)
