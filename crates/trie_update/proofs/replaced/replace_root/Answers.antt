use Rattle.std.proofs.Common.{◌∙◌, ◌∷◌, ◌+◌, ◌≤◌, ◌^◌, length, ap, sym, subst, refl, arith}
use Rattle.std.proofs.lemmas.Result.{IfOk-weaker}
use Rattle.std.specs.Cmp.{nat_cmp_total as total}
use Rattle.std.specs.FinMap.{nat_cmp-IsAntisymmetric as exact}
use Rattle.std.specs.FinSet as set
use Rattle.hypertrie_model.specs.Changes.{IsChange}
use Rattle.hypertrie_model.specs.SliceSizes.{len-union_parts}
use Rattle.trie_depth.specs.Tuples.{trip_tuple}
use Rattle.trie_context.specs.Holds.{nothing, one_at, at_depth}
use Rattle.trie_context.specs.MoveLaws.{held_there, moved_as}
use Rattle.trie_context.specs.Roots.{root_set, root_hold, IsHeld}
use Rattle.trie_context.specs.Rows.{set_of}
use Rattle.trie_context.specs.RootShape.{OnlyRootHeld}
use Rattle.change_log.specs.declared.step.RowStep.TheVariants.{Replaced}
use Rattle.change_log.specs.declared.step.Step.TheVariants.{Triples}
use Rattle.change_log.specs.Laws.{logged_replaced, logged_as}
use Rattle.change_log.specs.Log.{edge_hold}
use Rattle.change_log.specs.Logged.{IsLogged}
use Rattle.trie_change.specs.After.{graph_room}
use Rattle.trie_change.specs.Batches.{set_of_entries}
use Rattle.trie_change.specs.Changes.{grows}
use Rattle.trie_update.specs.Retained.{change_retains}
use Rattle.trie_update.proofs.RootHolds.{only_row}
use Rattle.trie_update.proofs.Sizes.{at_most_both, two_left}
use Rattle.trie_update.proofs.replaced.replace_root.Goals as goal

pub reopen_triples-requires-clause-batch : goal.reopen_triples-requires-clause-batch
reopen_triples-requires-clause-batch g c =
    let t = c.args.context.now in
    let row = c.in-Some.row in
    let B = set_of_entries trip_tuple c.args.batch.now in
    let is = c.in-Some.ensures.there in
    let may = subst (λ r. IsChange (grows c.args.change) (root_set t r) B) is c.requires.fits in
    let parts = len-union_parts total exact (set_of t 3 row) B in
    record {
      there = held_there t 3 row (subst (IsHeld t) is c.requires.held);
      once = c.requires.once;
      change = may;
      size = omega (arith, at_most_both c.args.change (set_of t 3 row) B may _ c.requires.once, subst (λ r. set.len (set.union (root_set t r) B) ≤ 536870912) is c.requires.size, parts, c.requires.once);
    }

pub reopen_triples-requires-clause-left : goal.reopen_triples-requires-clause-left
reopen_triples-requires-clause-left g c =
    let t = c.args.context.now in
    let B = set_of_entries trip_tuple c.args.batch.now in
    let may = subst (λ r. IsChange (grows c.args.change) (root_set t r) B) c.in-Some.ensures.there c.requires.fits in
    two_left c.args.change (set_of t 3 c.in-Some.row) B may _ c.requires.once (omega (arith, c.in-Some.ensures.large))

pub returns-in-Some-clause-logged : goal.returns-in-Some-clause-logged
returns-in-Some-clause-logged g c =
    let t = c.args.context.now in
    let row = c.in-Some.row in
    let batch = c.args.batch.now in
    let root = c.args.root.now in
    let few : length batch ≤ 536870912 = omega (arith, c.requires.size, c.requires.once, len-union_parts total exact (root_set t root) (set_of_entries trip_tuple batch)) in
    IfOk-weaker c.reopen_triples.result _ _ (λ new l.
    logged_as g.M.Mix.mixed t c.reopen_triples.new.context c.args.log.now.steps c.reopen_triples.new.log.steps (root_hold new) (at_depth 3 (one_at row)) (graph_room batch) l
    (root_hold new) (root_hold root) (2 ^ 65) (λ d r. refl) (λ d r. ap (λ q. root_hold q d r) (sym c.in-Some.ensures.there)) (omega (arith, few)))
    c.reopen_triples.ensures.logged

pub returns-in-Some-clause-retained : goal.returns-in-Some-clause-retained
returns-in-Some-clause-retained g c only =
    let t = c.args.context.now in
    let row = c.in-Some.row in
    let is = c.in-Some.ensures.there in
    subst (λ r. c.reopen_triples.new.retains ≤ c.args.retains.now + change_retains c.args.change t r c.args.batch.now) (sym is)
    (omega (arith, c.reopen_triples.ensures.retained (only_row t row (subst (OnlyRootHeld t) is only))))

pub change_graph-requires-clause-size : goal.change_graph-requires-clause-size
change_graph-requires-clause-size g c = omega (arith, c.requires.size, len-union_parts total exact (root_set c.args.context.now c.args.root.now) (set_of_entries trip_tuple c.args.batch.now))

pub change_graph-requires-clause-batch : goal.change_graph-requires-clause-batch
change_graph-requires-clause-batch g c = omega (arith, c.requires.size, c.requires.once, len-union_parts total exact (root_set c.args.context.now c.args.root.now) (set_of_entries trip_tuple c.args.batch.now))

pub returns-in_ok-new-in-None-clause-logged : goal.returns-in_ok-new-in-None-clause-logged
returns-in_ok-new-in-None-clause-logged g c =
    let t = c.args.context.now in
    let u = c.change_graph.new.context in
    let log = c.args.log.now.steps in
    let new_edge = c.root_edge-in-None.result in
    let old_edge = c.root_edge.result in
    let h = c.in_ok-new-in-None.ensures.held in
    let moved = moved_as h.moved (edge_hold 3 new_edge) nothing (λ d r. omega (arith, c.root_edge-in-None.ensures d r)) in
    subst (λ steps. IsLogged g.M.Mix.mixed t u log steps (root_hold c.in_ok-new-in-None.new) (root_hold c.args.root.now) (2 ^ 65)) (sym (c.push.ensures ∙ ap (λ l. Triples (Replaced old_edge new_edge) ∷ l) c.in_ok-reserve-in-None.ensures.same))
    (logged_as g.M.Mix.mixed t u log (Triples (Replaced old_edge new_edge) ∷ log) (edge_hold 3 new_edge) (edge_hold 3 old_edge) (2 ^ 65)
    (logged_replaced g.M.Mix.mixed t u log (Triples (Replaced old_edge new_edge)) c.is_kept.ensures (moved, h.stay) 3 old_edge new_edge (2 ^ 65) moved h.stay h.counts (λ e r. refl))
    (root_hold c.in_ok-new-in-None.new) (root_hold c.args.root.now) (2 ^ 65) c.root_edge-in-None.ensures c.root_edge.ensures (omega arith))
