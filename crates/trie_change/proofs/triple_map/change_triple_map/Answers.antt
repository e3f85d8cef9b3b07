use Rattle.std.proofs.Common.{ℕ, ◌≤◌, arith, sym, ◌∙◌, ap, subst}
use Rattle.edge_map.specs.Edges.{changed}
use Rattle.trie_depth.specs.Tuples.{trip_tuple}
use Rattle.trie_context.specs.Holds.{at_depth, nothing, holds_of}
use Rattle.trie_context.specs.Kept.{AreMoved}
use Rattle.trie_change.specs.Batches.{set_of_entries}
use Rattle.trie_change.specs.Rooms.{changes_lead, AreChanged}
use Rattle.trie_change.proofs.HoldLemmas.{changes_held, changes_held_still, undone, map_there, map_changed, map_moved, map_stay}
use Rattle.trie_change.proofs.triple_map.change_triple_map.Goals as goal

pub release_changes-requires : goal.release_changes-requires
release_changes-requires g c = record {
  held = subst (λ cs. (r : ℕ) → changes_lead cs r ≤ holds_of c.triple_changes-made.new.context 2 r) (sym c.deref-in-Err.ensures.value)
      (changes_held g.M.Mix.mixed c.args.context.now c.triple_changes-made.new.context c.is_kept.ensures 2 c.triple_changes-made.new.changes.items c.triple_changes-made.ensures.held.moved c.triple_changes-made.ensures.held.stay);
}

pub returns-in-Err-clause-kept : goal.returns-in-Err-clause-kept
returns-in-Err-clause-kept g c =
    undone g.M.Mix.mixed c.args.context.now c.triple_changes-made.new.context c.is_kept.ensures 2 c.triple_changes-made.new.changes.items c.triple_changes-made.ensures.held.moved c.triple_changes-made.ensures.held.stay
    c.release_changes.new.context (subst (λ cs. AreMoved g.M.Mix.mixed c.triple_changes-made.new.context c.release_changes.new.context nothing (at_depth 2 (changes_lead cs))) c.deref-in-Err.ensures.value c.release_changes.ensures.moved) c.release_changes.ensures.came

pub retain_map-requires-clause-there : goal.retain_map-requires-clause-there
retain_map-requires-clause-there g c =
    map_there g.M.Mix.mixed c.triple_changes-made.new.context 2 c.in-Ok.map (λ k. (
      _,
      subst (AreChanged c.args.change c.args.context.now c.triple_changes-made.new.context 2 c.args.old.now (set_of_entries trip_tuple c.deref.result.now))
          (sym (c.in-Ok.ensures ∙ ap (changed c.args.old.now) c.deref-2.ensures.value)) c.in_default.ensures.changed k,
    ))

pub release_changes-requires-in-Ok : goal.release_changes-requires-in-Ok
release_changes-requires-in-Ok g c = record {
  held = subst (λ cs. (r : ℕ) → changes_lead cs r ≤ holds_of c.retain_map.new.self 2 r) (sym c.deref-in-Ok.ensures.value)
      (changes_held_still g.M.Mix.mixed c.args.context.now c.triple_changes-made.new.context c.is_kept.ensures 2 c.triple_changes-made.new.changes.items c.triple_changes-made.ensures.held.moved c.triple_changes-made.ensures.held.stay
      c.retain_map.new.self c.in-Ok.map c.retain_map.ensures.moved c.retain_map.ensures.stay);
}

pub returns-in-Ok-clause-changed : goal.returns-in-Ok-clause-changed
returns-in-Ok-clause-changed g c =
    map_changed g.M.Mix.mixed c.args.context.now c.triple_changes-made.new.context c.is_kept.ensures 2 c.triple_changes-made.new.changes.items c.triple_changes-made.ensures.held.moved c.triple_changes-made.ensures.held.stay
    c.retain_map.new.self c.in-Ok.map c.retain_map.ensures.moved c.retain_map.ensures.stay
    c.release_changes-in-Ok.new.context (subst (λ cs. AreMoved g.M.Mix.mixed c.retain_map.new.self c.release_changes-in-Ok.new.context nothing (at_depth 2 (changes_lead cs))) c.deref-in-Ok.ensures.value c.release_changes-in-Ok.ensures.moved) c.release_changes-in-Ok.ensures.came
    c.args.change c.args.old.now (set_of_entries trip_tuple c.args.triples.items)
    (subst (AreChanged c.args.change c.args.context.now c.triple_changes-made.new.context 2 c.args.old.now (set_of_entries trip_tuple c.args.triples.items))
    (sym (c.in-Ok.ensures ∙ ap (changed c.args.old.now) c.deref-2.ensures.value))
    (subst (λ ts. AreChanged c.args.change c.args.context.now c.triple_changes-made.new.context 2 c.args.old.now (set_of_entries trip_tuple ts) (changed c.args.old.now c.triple_changes-made.new.changes.items)) c.deref.ensures.value c.in_default.ensures.changed))

pub returns-in-Ok-clause-held : goal.returns-in-Ok-clause-held
returns-in-Ok-clause-held g c = record {
  moved = map_moved g.M.Mix.mixed c.args.context.now c.triple_changes-made.new.context c.is_kept.ensures 2 c.triple_changes-made.new.changes.items c.triple_changes-made.ensures.held.moved c.triple_changes-made.ensures.held.stay
      c.retain_map.new.self c.in-Ok.map c.retain_map.ensures.moved c.retain_map.ensures.stay
      c.release_changes-in-Ok.new.context (subst (λ cs. AreMoved g.M.Mix.mixed c.retain_map.new.self c.release_changes-in-Ok.new.context nothing (at_depth 2 (changes_lead cs))) c.deref-in-Ok.ensures.value c.release_changes-in-Ok.ensures.moved) c.release_changes-in-Ok.ensures.came;
  counts = λ d r. omega (arith, c.triple_changes-made.ensures.held.counts d r, c.retain_map.ensures.few d r, c.release_changes-in-Ok.ensures.counts d r);
  stay = map_stay g.M.Mix.mixed c.args.context.now c.triple_changes-made.new.context c.is_kept.ensures 2 c.triple_changes-made.new.changes.items c.triple_changes-made.ensures.held.moved c.triple_changes-made.ensures.held.stay
      c.retain_map.new.self c.in-Ok.map c.retain_map.ensures.moved c.retain_map.ensures.stay
      c.release_changes-in-Ok.new.context (subst (λ cs. AreMoved g.M.Mix.mixed c.retain_map.new.self c.release_changes-in-Ok.new.context nothing (at_depth 2 (changes_lead cs))) c.deref-in-Ok.ensures.value c.release_changes-in-Ok.ensures.moved) c.release_changes-in-Ok.ensures.came;
}

pub release_changes-requires-in-Err-with : goal.release_changes-requires-in-Err-with
release_changes-requires-in-Err-with g c = record {
  held = subst (λ cs. (r : ℕ) → changes_lead cs r ≤ holds_of c.triple_changes-made.new.context 2 r) (sym c.deref-in-Err-with.ensures.value)
      (changes_held g.M.Mix.mixed c.args.context.now c.triple_changes-made.new.context c.is_kept.ensures 2 c.triple_changes-made.new.changes.items c.triple_changes-made.ensures.held.moved c.triple_changes-made.ensures.held.stay);
}

pub returns-clause-kept : goal.returns-clause-kept
returns-clause-kept g c =
    undone g.M.Mix.mixed c.args.context.now c.triple_changes-made.new.context c.is_kept.ensures 2 c.triple_changes-made.new.changes.items c.triple_changes-made.ensures.held.moved c.triple_changes-made.ensures.held.stay
    c.release_changes-in-Err-with.new.context (subst (λ cs. AreMoved g.M.Mix.mixed c.triple_changes-made.new.context c.release_changes-in-Err-with.new.context nothing (at_depth 2 (changes_lead cs))) c.deref-in-Err-with.ensures.value c.release_changes-in-Err-with.ensures.moved) c.release_changes-in-Err-with.ensures.came
