use Rattle.std.proofs.Common.{◌≡◌, ◌∙◌, length, Result, Ok, Err, None, Some, refl, sym, subst, arith}
use Rattle.std.specs.FinSet as set
use Rattle.std.specs.Result.{OnErr}
use Rattle.hypertrie_model.specs.Changes.{after}
use Rattle.trie_context.specs.FitEdges.{StandsAt, set_at, option_leads}
use Rattle.trie_context.specs.Holds.{holds_of, one_at, at_depth, nothing}
use Rattle.trie_context.specs.Kept.{AreMoved}
use Rattle.trie_change.specs.Batches.{set_of_entries, pair_rest}
use Rattle.trie_change.specs.Changes.{grows}
use Rattle.trie_change.specs.FigureLaws.{size_is}
use Rattle.trie_change.specs.BatchLaws.{order_once}
use Rattle.trie_context.specs.MoveLaws.{at_most, at_none, one_at_most, counts_as_before, gained_none, rows_as_before}
use Rattle.trie_change.proofs.KeyNodeLemmas.{changed_set, made_map, made_parts, few_stand, few_moved, keys_formed, keys_held, row_edge, row_moved, row_given}
use Rattle.trie_change.proofs.keys.change_keys.Goals as goal

on_err : {A B : Type 0} (r : Result A B) (P : Type 0) → P → OnErr r P
on_err (Ok x) P p = tt
on_err (Err e) P p = p

pub returns-then-takes_all-clause-stands : goal.returns-then-takes_all-clause-stands
returns-then-takes_all-clause-stands g c =
    let H = set_at c.args.context.now 1 c.args.old in
    let B = set_of_entries pair_rest c.args.run.now in
    let sized = size_is c.args.change H B c.requires.run.change c.key_figures-before.result.0 (length c.args.run.now) c.key_figures-before.ensures.size (order_once pair_rest c.args.run.now c.requires.run.order) in
    set.empty_of_len (after (grows c.args.change) H B) (sym sized ∙ c.takes_all.ensures c.if-takes_all.true)

pub returns-then-takes_all-clause-held : goal.returns-then-takes_all-clause-held
returns-then-takes_all-clause-held g c =
    let t = c.args.context.now in
    record {
      moved = gained_none g.M.Mix.mixed t c.is_kept.ensures (at_depth 1 (option_leads None)) (at_none 1 (option_leads None) (λ r. refl));
      counts = counts_as_before t (λ _ _. 1);
      stay = rows_as_before t;
    }

pub returns-then-size-lt2-clause-stands : goal.returns-then-size-lt2-clause-stands
returns-then-size-lt2-clause-stands g c =
    let keys = made_map g.M.Mix.mixed c.args.context.now c.is_kept.ensures c.args.change c.args.old c.requires.run.fits c.args.run.now c.in_ok-keys.keys c.in_ok-keys.ensures in
    few_stand _ c.in_ok-keys.keys keys c.args.context.now (omega (arith, c.len-size.ensures, c.if-size-lt2.true)) c.first_edge.result c.first_edge.ensures.none c.first_edge.ensures.there

pub returns-then-size-lt2-clause-held : goal.returns-then-size-lt2-clause-held
returns-then-size-lt2-clause-held g c =
    let keys = made_map g.M.Mix.mixed c.args.context.now c.is_kept.ensures c.args.change c.args.old c.requires.run.fits c.args.run.now c.in_ok-keys.keys c.in_ok-keys.ensures in
    record {
      moved = few_moved _ c.in_ok-keys.keys keys g.M.Mix.mixed c.args.context.now c.is_kept.ensures c.first_edge.result c.first_edge.ensures.there;
      counts = counts_as_before c.args.context.now (λ _ _. 1);
      stay = rows_as_before c.args.context.now;
    }

pub toggled_keys-requires : goal.toggled_keys-requires
toggled_keys-requires g c = order_once pair_rest c.args.run.now c.requires.run.order

pub intern-requires-clause-form : goal.intern-requires-clause-form
intern-requires-clause-form g c =
    let parts = made_parts g.M.Mix.mixed c.args.context.now c.is_kept.ensures c.args.change c.args.old c.requires.run.fits c.args.run.now c.requires.run.change c.key_figures-before.result.1 c.len-size.result c.toggled_keys.result c.in_ok-keys.keys c.new.result c.new-2.result c.in_ok-keys.ensures c.len-size.ensures c.if-size-lt2.false c.key_figures-before.ensures.hash c.toggled_keys.ensures c.new.ensures c.new-2.ensures in
    keys_formed g.M.Mix.mixed _ c.len-size.result c.toggled_keys.result c.in_ok-keys.keys c.new.result c.new-2.result parts

pub intern-requires-clause-held : goal.intern-requires-clause-held
intern-requires-clause-held g c r =
    let parts = made_parts g.M.Mix.mixed c.args.context.now c.is_kept.ensures c.args.change c.args.old c.requires.run.fits c.args.run.now c.requires.run.change c.key_figures-before.result.1 c.len-size.result c.toggled_keys.result c.in_ok-keys.keys c.new.result c.new-2.result c.in_ok-keys.ensures c.len-size.ensures c.if-size-lt2.false c.key_figures-before.ensures.hash c.toggled_keys.ensures c.new.ensures c.new-2.ensures in
    keys_held g.M.Mix.mixed _ c.len-size.result c.toggled_keys.result c.in_ok-keys.keys c.new.result c.new-2.result parts (holds_of c.args.context.now 0 r) r

pub returns-in_err-held-clause-kept : goal.returns-in_err-held-clause-kept
returns-in_err-held-clause-kept g c =
    let parts = made_parts g.M.Mix.mixed c.args.context.now c.is_kept.ensures c.args.change c.args.old c.requires.run.fits c.args.run.now c.requires.run.change c.key_figures-before.result.1 c.len-size.result c.toggled_keys.result c.in_ok-keys.keys c.new.result c.new-2.result c.in_ok-keys.ensures c.len-size.ensures c.if-size-lt2.false c.key_figures-before.ensures.hash c.toggled_keys.ensures c.new.ensures c.new-2.ensures in
    on_err c.from_residual-in_err-held.result (c.intern.new.self ≡ c.args.context.now)
    (row_given g.M.Mix.mixed _ c.len-size.result c.toggled_keys.result c.in_ok-keys.keys c.new.result c.new-2.result parts c.args.context.now c.intern.new.self c.is_kept.ensures c.in_err-held.ensures.given c.in_err-held.ensures.came)

pub returns-clause-stands : goal.returns-clause-stands
returns-clause-stands g c =
    let S = changed_set g.M.Mix.mixed c.args.context.now c.is_kept.ensures c.args.change c.args.old c.requires.run.fits c.args.run.now in
    let parts = made_parts g.M.Mix.mixed c.args.context.now c.is_kept.ensures c.args.change c.args.old c.requires.run.fits c.args.run.now c.requires.run.change c.key_figures-before.result.1 c.len-size.result c.toggled_keys.result c.in_ok-keys.keys c.new.result c.new-2.result c.in_ok-keys.ensures c.len-size.ensures c.if-size-lt2.false c.key_figures-before.ensures.hash c.toggled_keys.ensures c.new.ensures c.new-2.ensures in
    subst (λ e. StandsAt c.intern.new.self 1 S (Some e)) (sym c.into_edge.ensures)
    (row_edge g.M.Mix.mixed S c.len-size.result c.toggled_keys.result c.in_ok-keys.keys c.new.result c.new-2.result parts c.args.context.now c.intern.new.self c.in_ok-held.held c.in_ok-held.ensures.there)

pub returns-clause-held : goal.returns-clause-held
returns-clause-held g c =
    let parts = made_parts g.M.Mix.mixed c.args.context.now c.is_kept.ensures c.args.change c.args.old c.requires.run.fits c.args.run.now c.requires.run.change c.key_figures-before.result.1 c.len-size.result c.toggled_keys.result c.in_ok-keys.keys c.new.result c.new-2.result c.in_ok-keys.ensures c.len-size.ensures c.if-size-lt2.false c.key_figures-before.ensures.hash c.toggled_keys.ensures c.new.ensures c.new-2.ensures in
    record {
      moved = subst (λ e. AreMoved g.M.Mix.mixed c.args.context.now c.intern.new.self (at_depth 1 (option_leads (Some e))) nothing) (sym c.into_edge.ensures)
          (row_moved g.M.Mix.mixed _ c.len-size.result c.toggled_keys.result c.in_ok-keys.keys c.new.result c.new-2.result parts c.args.context.now c.intern.new.self c.in_ok-held.held c.in_ok-held.ensures.moved);
      counts = λ d r. omega (arith, c.in_ok-held.ensures.counts d r, at_most 1 (one_at c.in_ok-held.held) 1 (one_at_most c.in_ok-held.held) d r);
      stay = c.in_ok-held.ensures.stay;
    }
