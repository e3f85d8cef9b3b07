use Rattle.std.proofs.Common.{◌≡◌, ◌∙◌, ◌+◌, ℕ, sym, refl, length, arith}
use Rattle.std.specs.FinSet as set
use Rattle.hypertrie_model.specs.Changes.{after}
use Rattle.trie_change.specs.After.{graph_room}
use Rattle.trie_change.specs.Changes.{grows}
use Rattle.trie_node.specs.Sets.{edges_in}
use Rattle.trie_context.specs.Holds.{one_at, nothing}
use Rattle.trie_context.specs.MoveLaws.{moved_as, moved_on, at_most, one_at_most, counts_as_before, gained_none, rows_as_before, rows_stay_on}
use Rattle.trie_depth.specs.Tuples.{trip_tuple}
use Rattle.trie_change.specs.Batches.{set_of_entries}
use Rattle.trie_change.specs.Rooms.{row_set_at}
use Rattle.trie_change.specs.FigureLaws.{has_size, size_is}
use Rattle.trie_context.specs.Roots.{root_hold}
use Rattle.trie_context.specs.declared.root.Root.TheVariants.{Empty, Many}
use Rattle.trie_change.proofs.PositionLemmas.{still_held, all_given_back, stay_again, err_holds}
use Rattle.trie_change.specs.PartLaws.{are_parts, one_whole, whole_is, full_form, root_is}
use Rattle.trie_change.proofs.triples.change_root.Goals as goal

pub changed_size-size-requires : goal.changed_size-size-requires
changed_size-size-requires g c =
    has_size c.args.change (row_set_at c.args.context.now c.args.old) (set_of_entries trip_tuple c.args.batch.now) c.requires.batch.change c.requires.batch.size c.triple_figures-size.result.0 (length c.args.batch.now) c.triple_figures-size.ensures.size c.requires.batch.once

pub returns-then-size-eq0-clause-set : goal.returns-then-size-eq0-clause-set
returns-then-size-eq0-clause-set g c =
    let H = row_set_at c.args.context.now c.args.old in
    let B = set_of_entries trip_tuple c.args.batch.now in
    let G = after (grows c.args.change) H B in
    let sized : c.changed_size-size.result ≡ set.len G = c.changed_size-size.ensures ∙ size_is c.args.change H B c.requires.batch.change c.triple_figures-size.result.0 (length c.args.batch.now) c.triple_figures-size.ensures.size c.requires.batch.once in
    sym (set.empty_of_len G (sym sized ∙ c.if-size-eq0.true))

pub returns-then-size-eq0-clause-held : goal.returns-then-size-eq0-clause-held
returns-then-size-eq0-clause-held g c =
    let t = c.args.context.now in
    record {
      moved = gained_none g.M.Mix.mixed t c.is_kept.ensures (root_hold Empty) (λ d r. refl);
      counts = counts_as_before t (λ _ _. graph_room c.args.batch.now);
      stay = rows_as_before t;
    }

pub lone_triple-triple-requires-clause-lone : goal.lone_triple-triple-requires-clause-lone
lone_triple-triple-requires-clause-lone g c =
    let parts = are_parts c.is_kept.ensures c.args.change c.args.old c.args.batch.now c.requires.batch.once c.requires.batch.change c.change_positions.new.context c.triple_figures-size.result.0 c.triple_figures-size.result.1 c.changed_size-size.result c.toggled_triples-hash.result c.in_ok-first.first c.in_ok-first.second c.in_ok-first.third
    c.triple_figures-size.ensures.size c.triple_figures-size.ensures.hash c.changed_size-size.ensures c.toggled_triples-hash.ensures c.in_ok-first.ensures.first c.in_ok-first.ensures.second c.in_ok-first.ensures.third in
    one_whole c.change_positions.new.context parts c.if-size-eq1.true

pub release_positions-requires : goal.release_positions-requires
release_positions-requires g c =
    let hand : ℕ → ℕ = λ r. edges_in c.in_ok-first.first r + (edges_in c.in_ok-first.second r + edges_in c.in_ok-first.third r) in
    still_held hand c.in_ok-first.ensures.held.moved refl

pub returns-then-size-eq1-clause-set : goal.returns-then-size-eq1-clause-set
returns-then-size-eq1-clause-set g c =
    let parts = are_parts c.is_kept.ensures c.args.change c.args.old c.args.batch.now c.requires.batch.once c.requires.batch.change c.change_positions.new.context c.triple_figures-size.result.0 c.triple_figures-size.result.1 c.changed_size-size.result c.toggled_triples-hash.result c.in_ok-first.first c.in_ok-first.second c.in_ok-first.third
    c.triple_figures-size.ensures.size c.triple_figures-size.ensures.hash c.changed_size-size.ensures c.toggled_triples-hash.ensures c.in_ok-first.ensures.first c.in_ok-first.ensures.second c.in_ok-first.ensures.third in
    sym c.lone_triple-triple.ensures ∙ whole_is c.change_positions.new.context parts

pub returns-then-size-eq1-clause-held : goal.returns-then-size-eq1-clause-held
returns-then-size-eq1-clause-held g c = record {
  moved = moved_on c.in_ok-first.ensures.held.moved c.release_positions.ensures.moved nothing nothing (λ d r. omega arith);
  counts = λ d r. omega (arith, c.in_ok-first.ensures.held.counts d r, c.release_positions.ensures.counts d r);
  stay = stay_again c.is_kept.ensures c.in_ok-first.ensures.held.moved c.in_ok-first.ensures.held.stay c.release_positions.ensures.moved c.release_positions.ensures.came (λ d r. refl);
}

pub intern-requires-clause-form : goal.intern-requires-clause-form
intern-requires-clause-form g c =
    let parts = are_parts c.is_kept.ensures c.args.change c.args.old c.args.batch.now c.requires.batch.once c.requires.batch.change c.change_positions.new.context c.triple_figures-size.result.0 c.triple_figures-size.result.1 c.changed_size-size.result c.toggled_triples-hash.result c.in_ok-first.first c.in_ok-first.second c.in_ok-first.third
    c.triple_figures-size.ensures.size c.triple_figures-size.ensures.hash c.changed_size-size.ensures c.toggled_triples-hash.ensures c.in_ok-first.ensures.first c.in_ok-first.ensures.second c.in_ok-first.ensures.third in
    let zero = c.if-size-eq0.false in
    let one = c.if-size-eq1.false in
    full_form c.change_positions.new.context parts (omega arith)

pub intern-requires-clause-held : goal.intern-requires-clause-held
intern-requires-clause-held g c =
    let hand : ℕ → ℕ = λ r. edges_in c.in_ok-first.first r + (edges_in c.in_ok-first.second r + edges_in c.in_ok-first.third r) in
    still_held hand c.in_ok-first.ensures.held.moved refl

pub returns-in_err-intern-clause-kept : goal.returns-in_err-intern-clause-kept
returns-in_err-intern-clause-kept g c = err_holds c.from_residual-in_err-intern.result
    (all_given_back c.is_kept.ensures c.in_ok-first.ensures.held.moved c.in_ok-first.ensures.held.stay refl c.in_err-intern.ensures.given c.in_err-intern.ensures.came (λ d r. refl))

pub returns-clause-set : goal.returns-clause-set
returns-clause-set g c =
    let parts = are_parts c.is_kept.ensures c.args.change c.args.old c.args.batch.now c.requires.batch.once c.requires.batch.change c.change_positions.new.context c.triple_figures-size.result.0 c.triple_figures-size.result.1 c.changed_size-size.result c.toggled_triples-hash.result c.in_ok-first.first c.in_ok-first.second c.in_ok-first.third
    c.triple_figures-size.ensures.size c.triple_figures-size.ensures.hash c.changed_size-size.ensures c.toggled_triples-hash.ensures c.in_ok-first.ensures.first c.in_ok-first.ensures.second c.in_ok-first.ensures.third in
    root_is c.change_positions.new.context parts c.intern.new.self c.in_ok-first.ensures.held.moved.kept c.in_ok-intern.ensures.stay c.in_ok-intern.field-0 c.in_ok-intern.ensures.there

pub returns-clause-held : goal.returns-clause-held
returns-clause-held g c = record {
  moved = moved_on c.in_ok-first.ensures.held.moved c.in_ok-intern.ensures.moved (root_hold (Many c.in_ok-intern.field-0)) nothing (λ d r. omega arith);
  counts = λ d r. omega (arith, c.in_ok-first.ensures.held.counts d r, c.in_ok-intern.ensures.counts d r, at_most 3 (one_at c.in_ok-intern.field-0) 1 (one_at_most c.in_ok-intern.field-0) d r);
  stay = rows_stay_on c.args.context.now c.change_positions.new.context c.intern.new.self c.in_ok-first.ensures.held.stay c.in_ok-intern.ensures.stay;
}
